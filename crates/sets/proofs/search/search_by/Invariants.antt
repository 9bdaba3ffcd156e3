-- From the rest on is looked for what was looked for from the start.
use Prim.Native.Nat.{ℕ}
use mathlib.Core.Path.{◌≡◌}
use mathlib.Core.Bool.{Bool}
use lib.ListN.{length}
use Rattle.sets.specs.Search.{place_from, IsQuiet, Tells}
use Rattle.sets.proofs.SearchLaws.{IsRest, begin_of}
use Rattle.sets.proofs.search.search_by.Given as goal

abbrev pub invariant-loop-block : goal.invariant-loop-block
invariant-loop-block g l = record {
  rest : IsRest l.book l.rest;
  same : (test : ℕ → Bool) → Tells g.F.Fn l.fn.passes test → IsQuiet g.Q.Fn l.fn.quiet test
      → place_from test l.book (begin_of l.book l.rest) l.left ≡ place_from test l.book l.fn.from l.fn.ordinal;
}

abbrev pub decreases-loop-block : goal.decreases-loop-block
decreases-loop-block g l = length l.rest
