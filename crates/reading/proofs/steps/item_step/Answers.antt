use mathlib.Core.Path.{◌∙◌, ap}
use Rattle.std.specs.Prelude.{Ok}
use Rattle.std.proofs.lemmas.Result.{err_from_is_err_and}
use Rattle.reading.proofs.CursorLaws.{step_more, step_set, step_end, step_refused}
use Rattle.reading.proofs.steps.item_step.Goals as goal

pub returns-in_err-more : goal.returns-in_err-more
returns-in_err-more c =
    let p = err_from_is_err_and c.from_residual.result c.from_residual.ensures.1 in
    rw (p.1, p.2) (step_refused c.requires.0 c.requires.1 c.item_at.result c.item_at.ensures _ c.in_err-more.was)

pub returns-in-More : goal.returns-in-More
returns-in-More c = step_more c.requires.0 c.requires.1 c.item_at.result c.item_at.ensures _ _ (c.in_ok-more.was ∙ ap Ok c.in-More.is)

pub returns-in-Set : goal.returns-in-Set
returns-in-Set c = step_set c.requires.0 c.requires.1 c.item_at.result c.item_at.ensures (c.in_ok-more.was ∙ ap Ok c.in-Set.is) _ c.new.ensures

pub returns-in-End : goal.returns-in-End
returns-in-End c = step_end c.requires.0 c.requires.1 c.item_at.result c.item_at.ensures (c.in_ok-more.was ∙ ap Ok c.in-End.is)
