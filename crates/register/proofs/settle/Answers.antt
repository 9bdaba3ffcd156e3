-- Each turn by the laws of Turns. Assumes nothing.
use Rattle.std.specs.Prelude.{Ok, Err}
use Rattle.std.proofs.lemmas.Result.{err_from_is_err_and}
use Rattle.register.proofs.Turns.{turning_starts, turn_ends, turn_refuses, turn_goes_on}
use Rattle.register.proofs.settle.Goals as goal

pub loop-d-init : goal.loop-d-init
loop-d-init c = turning_starts _ _ _ _ _ c.requires.0 c.load_all.ensures c.new-cursor.ensures

pub returns-in_err-d : goal.returns-in_err-d
returns-in_err-d c =
    let p = err_from_is_err_and c.from_residual.result c.from_residual.ensures.1 in
    rw (p.1, p.2) (turn_ends c.loop-d.invariant (Err c.in_err-d.field-0.0) c.in_err-d.ensures.0)

pub returns-in-Over : goal.returns-in-Over
returns-in-Over c =
    let q = rw c.in-Over.is at c.in_ok-d.ensures in
    turn_ends c.loop-d.invariant (Ok c.in-Over.sums) q.0

pub returns-in_err-at_place-in-Cover : goal.returns-in_err-at_place-in-Cover
returns-in_err-at_place-in-Cover c =
    let q = rw c.in-Cover.is at c.in_ok-d.ensures in
    let e = c.in_err-at_place-in-Cover.ensures in
    let p = err_from_is_err_and c.from_residual-in_err-at_place-in-Cover.result c.from_residual-in_err-at_place-in-Cover.ensures.1 in
    rw (p.1, p.2) (turn_refuses c.loop-d.invariant c.in-Cover.d c.in-Cover.behind q _ _ c.draw.ensures.0 c.draw.ensures.1 _ e.0 e.1)

pub loop-d-preserved : goal.loop-d-preserved
loop-d-preserved c =
    let q = rw c.in-Cover.is at c.in_ok-d.ensures in
    turn_goes_on c.loop-d.invariant c.in-Cover.d c.in-Cover.behind q _ _ c.draw.ensures.0 c.draw.ensures.1 c.in_ok-at_place-in-Cover.ensures
