use Rattle.settings.proofs.Gathering.{trade_is}
use Rattle.settings.proofs.members.with_trade.Goals as goal

pub returns : goal.returns
returns c = trade_is _ _ _ c.read.ensures c.add_trade.ensures
