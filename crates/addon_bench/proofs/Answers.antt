-- The refusal is told apart from every other answer of the three functions. Assumes nothing.
use mathlib.Core.Path.{◌≡◌}
use mathlib.Core.Bool.{false}
use Prim.Native.Nat.{ℕ, ◌-◌, ◌≤◌, ◌<◌}
use native.Mathlib.Omega.{arith}
use borrow.Author.Tests.{eqb-false}
use lib.Dec.{eqb}
use Rattle.rules.proofs.Lists.{or_left}
use Rattle.rules.proofs.Weighted.{at_most}
use Rattle.addon_bench.specs.Answered.{refusal, refuses, answered}

-- no other answer to numbers of 64 bits is the refusal
pub told_apart : (x g l : ℕ) → x ≤ refusal → refuses x g ≡ false → answered x g l < refusal
unfolding answered
told_apart x g l h e =
    let other = eqb-false x refusal (or_left (eqb x refusal) _ e) in
    simp (e) (omega (arith, at_most x g (g - l) (omega arith)))
