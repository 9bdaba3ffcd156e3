use Rattle.settings.proofs.PieceLaws.{exposed_is}
use Rattle.settings.proofs.exposure.exposed.Goals as goal

pub returns : goal.returns
returns c = exposed_is _ _ c.field-offsets.ensures c.chosen-netted.ensures.0 c.bit.ensures c.chosen-weighed.ensures.0 c.bit-2.ensures c.chosen-counted.ensures.0 c.chosen.ensures.0
