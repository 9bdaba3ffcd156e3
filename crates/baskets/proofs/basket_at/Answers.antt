use native.Mathlib.Omega.{arith}
use Rattle.std.proofs.lemmas.Result.{err_from_is_err_and}
use Rattle.baskets.proofs.Reading.{read_short, read_refused, read_whole}
use Rattle.baskets.proofs.basket_at.Goals as goal

pub returns-then-part-next : goal.returns-then-part-next
returns-then-part-next c = read_short c.args.part.now c.args.at c.names_in-names.result c.names_in-names.ensures (omega (arith, c.if-part-next.true))

pub returns-in_err-check : goal.returns-in_err-check
returns-in_err-check c =
    let p = err_from_is_err_and c.from_residual.result c.from_residual.ensures.1 in
    rw (p.1, p.2) (read_refused c.args.part.now c.args.at c.names_in-names.result c.names_in-names.ensures (omega (arith, c.if-part-next.false)) c.basket_words-b.ensures _ c.in_err-check.ensures)

pub returns : goal.returns
returns c = read_whole c.args.part.now c.args.at c.names_in-names.result c.names_in-names.ensures (omega (arith, c.if-part-next.false)) c.basket_words-b.ensures c.in_ok-check.ensures c.add_on.ensures (omega arith)
