use Rattle.settings.proofs.Gathering.{credit_is}
use Rattle.settings.proofs.members.with_credit.Goals as goal

pub returns : goal.returns
returns c = credit_is _ _ c.read.ensures c.covers_from-covers.ensures c.add_written.ensures
