use Rattle.settings.proofs.Gathering.{basket_small}
use Rattle.settings.proofs.members.with_basket.Goals as goal

pub add_basket-requires : goal.add_basket-requires
add_basket-requires c = (c.requires.0.1, basket_small _ _ c.basket_at.ensures _ c.in-Ok.is)
