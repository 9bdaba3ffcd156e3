use mathlib.Core.Path.{sym, ◌∙◌}
use Rattle.std.proofs.lemmas.Result.{err_from_is_err_and}
use Rattle.records.proofs.Words.{cause_some}
use Rattle.reading.proofs.ItemLaws.{met}
use Rattle.reading.proofs.HeadLaws.{set_halts}
use Rattle.reading.proofs.AnswerLaws.{set_answers}
use Rattle.reading.proofs.items.set_at.Goals as goal

pub returns-in_err-at_place : goal.returns-in_err-at_place
returns-in_err-at_place c =
    let p = err_from_is_err_and c.from_residual.result c.from_residual.ensures.1 in
    let at_place = c.in_err-at_place.ensures in
    rw (p.1, p.2, at_place.1) (λ s f. ((λ bands. set_halts bands _ (cause_some _) (met 4 f c.requires.1) (at_place.0 ∙ c.check_at.ensures)), tt))

pub returns : goal.returns
returns c = λ s f. set_answers (met 4 f c.requires.1) (sym c.check_at.ensures ∙ c.in_ok-at_place.ensures)
