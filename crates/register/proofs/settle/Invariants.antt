use lib.ListN.{length}
use Rattle.reading.specs.Ahead.{ahead}
use Rattle.register.proofs.Turns.{Turning}
use Rattle.register.proofs.settle.Given as goal

abbrev pub invariant-loop-d : goal.invariant-loop-d
invariant-loop-d l = Turning l.book l.b l.fn.register l.register l.cursor

abbrev pub decreases-loop-d : goal.decreases-loop-d
decreases-loop-d l = length (ahead l.book l.cursor).draws
