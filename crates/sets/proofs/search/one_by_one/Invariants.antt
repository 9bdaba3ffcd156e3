-- What is looked for from here on is what was looked for from the start.
use Prim.Native.Nat.{ℕ}
use mathlib.Core.Path.{◌≡◌}
use mathlib.Core.Bool.{Bool}
use Rattle.sets.specs.Search.{place_from, Tells}
use Rattle.sets.proofs.search.one_by_one.Given as goal

abbrev pub invariant-loop-i : goal.invariant-loop-i
invariant-loop-i g l = (test : ℕ → Bool) → Tells g.F.Fn l.fn.passes test → place_from test l.words l.i l.left ≡ place_from test l.words 0 l.fn.ordinal
