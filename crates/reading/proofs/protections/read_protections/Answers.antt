use Prim.Native.Nat.{◌+◌, ◌-◌}
use mathlib.Core.Path.{◌≡◌, sym, ◌∙◌}
use native.Mathlib.Omega.{arith}
use Rattle.std.proofs.lemmas.Result.{err_from_is_err_and}
use Rattle.reading.proofs.ProtectionLaws.{goes_on, stops_at, ends_here}
use Rattle.reading.proofs.protections.read_protections.Goals as goal

pub loop-i-preserved : goal.loop-i-preserved
loop-i-preserved c =
    let i = c.loop-i in
    let g = goes_on c.args.book.now i.at i.invariant.0 (c.args.b - i._i) (omega arith) c.in_ok-at.at (sym c.in_ok-at.ensures) in
    let less : c.args.b - (i._i + 1) ≡ c.args.b - i._i - 1 = omega arith in
    rw less (g.0, i.invariant.1 ∙ g.1)

pub returns-in_err-at : goal.returns-in_err-at
returns-in_err-at c =
    let i = c.loop-i in
    let p = err_from_is_err_and c.from_residual.result c.from_residual.ensures.1 in
    rw (p.1, p.2) (stops_at c.args.book.now i.at i.invariant.0 (c.args.b - i._i) (omega arith) _ _ (sym c.in_err-at.ensures) ∙ sym i.invariant.1)

pub returns : goal.returns
returns c =
    let i = c.loop-i in
    ends_here c.args.book.now i.at i.invariant.0 (c.args.b - i._i) (omega arith) ∙ sym i.invariant.1
