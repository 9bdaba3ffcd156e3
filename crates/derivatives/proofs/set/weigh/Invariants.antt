use Rattle.derivatives.proofs.Weighing.{Weighing}
use Prim.Native.Nat.{◌-◌}
use lib.ListN.{length}
use Rattle.derivatives.proofs.set.weigh.Given as goal

abbrev pub invariant-loop-draw : goal.invariant-loop-draw
invariant-loop-draw l = Weighing l.bands l.part l.begin l.initial.o l.o

abbrev pub decreases-loop-draw : goal.decreases-loop-draw
decreases-loop-draw l = length l.part - l.o.at
