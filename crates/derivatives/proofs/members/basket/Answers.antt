use mathlib.Core.Path.{refl, sym}
use Rattle.derivatives.proofs.Baskets.{basket_faulty, basket_roomy, basket_good}
use Rattle.derivatives.proofs.members.basket.Goals as goal

pub returns-in-Err : goal.returns-in-Err
returns-in-Err c = (basket_faulty c.requires (sym c.if-not-standing.ensures) c.basket_at.result c.basket_at.ensures c.in-Err.cause c.in-Err.is, refl)

pub add_basket-requires : goal.add_basket-requires
add_basket-requires c = basket_roomy c.requires (sym c.if-not-standing.ensures) c.basket_at.result c.basket_at.ensures c.in-Ok.b c.in-Ok.is

pub returns-in-Ok : goal.returns-in-Ok
returns-in-Ok c = basket_good c.requires (sym c.if-not-standing.ensures) c.basket_at.result c.basket_at.ensures c.in-Ok.b c.in-Ok.is c.add_basket.ensures
