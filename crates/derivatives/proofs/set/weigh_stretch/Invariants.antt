use Rattle.derivatives.proofs.Stretching.{Stretching}
use Prim.Native.Nat.{◌-◌}
use lib.ListN.{length}
use Rattle.derivatives.proofs.set.weigh_stretch.Given as goal

abbrev pub invariant-loop-next : goal.invariant-loop-next
invariant-loop-next l = Stretching l.bands l.part l.begin l.initial.o l.o

abbrev pub decreases-loop-next : goal.decreases-loop-next
decreases-loop-next l = length l.part - l.o.at
