use Prim.Native.Nat.{◌-◌}
use lib.ListN.{length}
use Rattle.records.specs.Sums.{plus}
use Rattle.records.specs.Step.{off_balance_sums}
use Rattle.reading.proofs.RunLaws.{Running}
use Rattle.reading.proofs.runs.off_balance_items.Given as goal

abbrev pub invariant-loop-figures : goal.invariant-loop-figures
invariant-loop-figures l = Running l.book l.s l.from (plus l.s (off_balance_sums l.notionals l.unconverted)) l.at

abbrev pub decreases-loop-figures : goal.decreases-loop-figures
decreases-loop-figures l = length l.book - l.at
