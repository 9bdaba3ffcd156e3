use Prim.Native.Nat.{◌-◌}
use lib.ListN.{length}
use Rattle.settings.proofs.Covers.{CoversLeft}
use Rattle.settings.proofs.members.covers_from.Given as goal

abbrev pub invariant-loop-c : goal.invariant-loop-c
invariant-loop-c l = CoversLeft l.part l.from l.amount l.at

abbrev pub decreases-loop-c : goal.decreases-loop-c
decreases-loop-c l = length l.part - l.at
