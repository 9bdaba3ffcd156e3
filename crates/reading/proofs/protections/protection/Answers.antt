use mathlib.Core.Path.{refl, sym, ◌∙◌}
use native.Mathlib.Omega.{arith}
use borrow.Author.Tests.{eqb-true, eqb-false}
use Rattle.std.proofs.lemmas.Result.{err_from_is_err_and}
use Rattle.records.proofs.Words.{cause_some}
use Rattle.reading.proofs.ProtectionLaws.{due_beyond, due_other, due_fault, due_good}
use Rattle.reading.proofs.protections.protection.Goals as goal

pub returns-then-book-at : goal.returns-then-book-at
returns-then-book-at c = due_beyond c.args.book.now c.args.at c.if-book-at.true

pub returns-then-not-is_kind : goal.returns-then-not-is_kind
returns-then-not-is_kind c = due_other c.args.book.now c.args.at (omega arith) _ refl (eqb-false _ _ (sym c.is_kind.ensures ∙ c.if-not-is_kind.true))

pub returns-in_err-at_place : goal.returns-in_err-at_place
returns-in_err-at_place c =
    let p = err_from_is_err_and c.from_residual.result c.from_residual.ensures.1 in
    let at_place = c.in_err-at_place.ensures in
    rw (p.1, p.2, at_place.1) (
    due_fault c.args.book.now c.args.at (omega arith) _ refl (eqb-true _ _ (sym c.is_kind.ensures ∙ c.if-not-is_kind.false)) _ (at_place.0 ∙ c.check_at.ensures) (cause_some _)
    )

pub returns : goal.returns
returns c =
    due_good c.args.book.now c.args.at (omega arith) _ refl (eqb-true _ _ (sym c.is_kind.ensures ∙ c.if-not-is_kind.false)) _ c.check_at.ensures c.in_ok-at_place.ensures
