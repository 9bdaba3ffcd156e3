use mathlib.Core.Path.{refl}
use Rattle.reading.proofs.SetSteps.{step_cover, plus_roomy, step_whole, step_refused}
use Rattle.reading.proofs.steps.set_step.Goals as goal

pub plus-requires : goal.plus-requires
plus-requires c = plus_roomy c.requires.0 c.requires.1 c.weigh.result c.weigh.ensures c.in-Ok-Whole.t c.in-Ok-Whole.place (rw c.in-Ok-Whole.field-0-is at c.in-Ok-Whole.is) c.read.result c.set_sums.ensures

pub returns-in-Ok-Cover : goal.returns-in-Ok-Cover
returns-in-Ok-Cover c = step_cover c.requires.0 c.requires.1 c.weigh.result c.weigh.ensures c.in-Ok-Cover.draw c.in-Ok-Cover.next (rw c.in-Ok-Cover.field-0-is at c.in-Ok-Cover.is)

pub returns-in-Ok-Whole : goal.returns-in-Ok-Whole
returns-in-Ok-Whole c = step_whole c.requires.0 c.requires.1 c.weigh.result c.weigh.ensures c.in-Ok-Whole.t c.in-Ok-Whole.place (rw c.in-Ok-Whole.field-0-is at c.in-Ok-Whole.is) c.read.ensures c.set_sums.ensures c.plus.ensures

pub returns-in-Err : goal.returns-in-Err
returns-in-Err c = step_refused c.requires.0 c.requires.1 c.weigh.result c.weigh.ensures c.in-Err.r c.in-Err.is refl
