use mathlib.Core.Path.{◌≡◌}
use Rattle.std.proofs.Common.{rules}
use native.Mathlib.Omega.{arith}
use Rattle.settings.proofs.CountLaws.{counting_begins, few, counting_met, counting_missed, counting_none, counting_over, verdict_is}
use Rattle.settings.proofs.verdicts.count_each.Goals as goal
use Rattle.settings.proofs.verdicts.count_each.Goals.{in-Met, in-Missed, in-NoExposure}

pub loop-m-init : goal.loop-m-init
loop-m-init c =
    let e : c.default-counts.result ≡ record { met = 0; missed = 0; no_exposure = 0 } = search rules in
    rw e (counting_begins _)

pub overflow_add-counts : goal.overflow_add-counts
overflow_add-counts c = omega (arith, (few _ _ _ _ _ c.loop-m.invariant).0)

pub overflow_add-counts-in-Missed : goal.overflow_add-counts-in-Missed
overflow_add-counts-in-Missed c = omega (arith, (few _ _ _ _ _ c.loop-m.invariant).1.0)

pub overflow_add-counts-in-NoExposure : goal.overflow_add-counts-in-NoExposure
overflow_add-counts-in-NoExposure c = omega (arith, (few _ _ _ _ _ c.loop-m.invariant).1.1)

pub loop-m-preserved : goal.loop-m-preserved
loop-m-preserved c = elim c.match-verdict.branch [
  | in-Met w ↦ rw w.counts-is (counting_met _ _ _ _ _ c.loop-m.invariant (omega (arith, c.loop-m-test.true)) (verdict_is c.args.p c.args.others c.args.tier1.gain c.args.tier1.loss c.loop-m.m c.exposed.ensures w.in-Met.ensures))
  | in-Missed w ↦ rw w.counts-is (counting_missed _ _ _ _ _ c.loop-m.invariant (omega (arith, c.loop-m-test.true)) (verdict_is c.args.p c.args.others c.args.tier1.gain c.args.tier1.loss c.loop-m.m c.exposed.ensures w.in-Missed.ensures))
  | in-NoExposure w ↦ rw w.counts-is (counting_none _ _ _ _ _ c.loop-m.invariant (omega (arith, c.loop-m-test.true)) (verdict_is c.args.p c.args.others c.args.tier1.gain c.args.tier1.loss c.loop-m.m c.exposed.ensures w.in-NoExposure.ensures))
]

pub returns : goal.returns
returns c = counting_over _ _ _ _ _ c.loop-m.invariant (omega (arith, c.loop-m-test.false))
