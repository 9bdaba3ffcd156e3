use Prim.Native.Nat.{ℕ, ◌+◌}
use mathlib.Core.Path.{◌≡◌, ◌∙◌}
use mathlib.Core.Bool.{Bool, false, not, ◌||◌}
use native.Mathlib.Omega.{arith}
use lib.Dec.{eqb}
use Rattle.std.proofs.Common.{rules}
use Rattle.std.proofs.iter.runs.Made.{chains}
use Rattle.std.specs.List.{fold, slice_range}
use Rattle.rules.specs.Word.{kind_of}
use Rattle.records.proofs.Words.{lacking_short, lacking_fold}
use Rattle.records.proofs.presence.lacking.Goals as goal

pub returns-then-ws-at : goal.returns-then-ws-at
returns-then-ws-at c = lacking_short c.args.ws.now c.args.at c.args.n c.args.n (omega arith) (omega arith)

pub returns : goal.returns
returns c =
    let a = c.args in
    let folded : c.fold.result ≡ fold (λ (other : Bool) (w : ℕ). other || not (eqb (kind_of w) 0)) false (slice_range a.ws.now (a.at + 1) (a.at + a.n + 1)) = search (rules, chains) in
    folded ∙ lacking_fold a.ws.now a.at a.n (omega arith)
