-- After i turns the first i entries are those of the protections, and the others are as they were.
use mathlib.Core.Path.{◌≡◌}
use mathlib.Core.List.{◌++◌}
use lib.ListN.{drop}
use Rattle.register.specs.Loading.{loaded_from}
use Rattle.register.proofs.entries.load_all.Given as goal

abbrev pub invariant-loop-i : goal.invariant-loop-i
invariant-loop-i l = l.entry-items ≡ loaded_from l.book l.i 0 ++ drop l.i l.initial.entry-items
