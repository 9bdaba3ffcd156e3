use Prim.Native.Nat.{◌-◌}
use lib.ListN.{length}
use Rattle.records.specs.Sums.{plus}
use Rattle.records.specs.Step.{asset_sums}
use Rattle.reading.proofs.RunLaws.{Running}
use Rattle.reading.proofs.runs.assets.Given as goal

abbrev pub invariant-loop-a : goal.invariant-loop-a
invariant-loop-a l = Running l.book l.s l.from (plus l.s (asset_sums l.carried l.deducted)) l.at

abbrev pub decreases-loop-a : goal.decreases-loop-a
decreases-loop-a l = length l.book - l.at
