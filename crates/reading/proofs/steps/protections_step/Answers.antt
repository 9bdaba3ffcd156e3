use mathlib.Core.Path.{refl}
use Rattle.std.proofs.Common.{◌≡◌, rules}
use Rattle.std.proofs.lemmas.Result.{err_from_is_err_and}
use Rattle.records.specs.Sums.{no_sums}
use Rattle.reading.proofs.CursorLaws.{step_faulty, step_upto}
use Rattle.reading.proofs.steps.protections_step.Goals as goal

pub returns-in_err-at : goal.returns-in_err-at
returns-in_err-at c =
    let p = err_from_is_err_and c.from_residual.result c.from_residual.ensures.1 in
    rw (p.1, p.2) (step_faulty c.requires.0 c.requires.1 _ c.protections_of.ensures _ c.in_err-at.ensures _ refl)

pub returns : goal.returns
returns c =
    let none : c.default.result ≡ no_sums = search rules in
    step_upto c.requires.0 c.requires.1 _ c.protections_of.ensures _ c.in_ok-at.ensures _ refl _ none
