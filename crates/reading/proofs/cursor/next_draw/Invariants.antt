use Rattle.reading.specs.Ahead.{left}
use Rattle.reading.proofs.CursorLaws.{Reached}
use Rattle.reading.proofs.cursor.next_draw.Given as goal

abbrev pub invariant-loop-next : goal.invariant-loop-next
invariant-loop-next l = Reached l.book l.initial.c l.c

abbrev pub decreases-loop-next : goal.decreases-loop-next
decreases-loop-next l = left l.book l.c
