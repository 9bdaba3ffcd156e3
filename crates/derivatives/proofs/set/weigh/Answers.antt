use Rattle.std.proofs.lemmas.Result.{err_from_is_err_and}
use Rattle.derivatives.proofs.Weighing.{weighing_next, weighing_onward, weighing_whole, weighing_faulty}
use Rattle.derivatives.proofs.set.weigh.Goals as goal

pub loop-draw-smaller : goal.loop-draw-smaller
loop-draw-smaller c = weighing_onward c.loop-draw.invariant (rw c.in-Whole.is at c.in_ok-draw.ensures) (rw c.in-Some.is at c.in_ok-next-in-Whole.ensures)

pub loop-draw-preserved : goal.loop-draw-preserved
loop-draw-preserved c = weighing_next c.loop-draw.invariant (rw c.in-Whole.is at c.in_ok-draw.ensures) (rw c.in-Some.is at c.in_ok-next-in-Whole.ensures)

pub returns-in-None : goal.returns-in-None
returns-in-None c = weighing_whole c.loop-draw.invariant (rw c.in-Whole.is at c.in_ok-draw.ensures) (rw c.in-None.is at c.in_ok-next-in-Whole.ensures)

pub returns-in_err-next-in-Whole : goal.returns-in_err-next-in-Whole
returns-in_err-next-in-Whole c =
    let p = err_from_is_err_and c.from_residual-in_err-next-in-Whole.result c.from_residual-in_err-next-in-Whole.ensures.1 in
    rw (p.1, p.2) (weighing_faulty c.loop-draw.invariant (rw c.in-Whole.is at c.in_ok-draw.ensures) c.in_err-next-in-Whole.field-0.0 c.in_err-next-in-Whole.ensures.0)
