-- Each return is at a way that the set's turn goes; the set's sums fit, by the words of the part. Assumes nothing.
use mathlib.Core.Path.{refl, ◌∙◌}
use Rattle.std.proofs.lemmas.Result.{err_from_is_err_and}
use Rattle.records.proofs.Words.{cause_some}
use Rattle.financing.proofs.SetSteps.{set_faulty, set_refused, set_fits, set_whole}
use Rattle.financing.proofs.financing_set.Goals as goal

pub returns-in_err-at_place : goal.returns-in_err-at_place
returns-in_err-at_place c =
    let p = err_from_is_err_and c.from_residual.result c.from_residual.ensures.1 in
    let at_place = c.in_err-at_place.ensures in
    rw (p.1, p.2, at_place.1) (λ bands. set_faulty c.args.part.now c.requires.1 bands _ (at_place.0 ∙ c.check_set.ensures) (cause_some _))

pub returns-in_err-t : goal.returns-in_err-t
returns-in_err-t c =
    let p = err_from_is_err_and c.from_residual-in_err-t.result c.from_residual-in_err-t.ensures.1 in
    rw (p.1, p.2) (λ bands. set_refused c.args.part.now c.requires.1 _ c.in_err-t.ensures bands _ c.check_set.ensures c.in_ok-at_place.ensures _ _ refl)

pub set_sums-requires : goal.set_sums-requires
set_sums-requires c = set_fits c.args.part.now c.requires.1 _ c.in_ok-t.ensures c.requires.0 _ _ refl

pub returns : goal.returns
returns c = λ bands. set_whole c.args.part.now c.requires.1 _ c.in_ok-t.ensures bands _ c.check_set.ensures c.in_ok-at_place.ensures _ _ refl _ c.set_sums.ensures
