use mathlib.Core.Path.{sym, ◌∙◌}
use Rattle.std.proofs.lemmas.Result.{err_from_is_err_and}
use Rattle.records.proofs.Words.{cause_some}
use Rattle.reading.proofs.ItemLaws.{met}
use Rattle.reading.proofs.AnswerLaws.{end_answers, end_halts}
use Rattle.reading.proofs.items.end_at.Goals as goal

pub returns-in_err-at_place : goal.returns-in_err-at_place
returns-in_err-at_place c =
    let p = err_from_is_err_and c.from_residual.result c.from_residual.ensures.1 in
    let at_place = c.in_err-at_place.ensures in
    rw (p.1, p.2, at_place.1) (λ s f. ((λ bands. end_halts bands (met 15 f c.requires.1) _ (cause_some _) (at_place.0 ∙ c.check_end.ensures)), tt))

pub returns : goal.returns
returns c = λ s f. end_answers (met 15 f c.requires.1) (sym c.check_end.ensures ∙ c.in_ok-at_place.ensures)
