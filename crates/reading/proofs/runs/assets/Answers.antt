-- The loop over assets, as the laws of a run say. Assumes nothing.
use Prim.Native.Nat.{◌+◌}
use mathlib.Core.Path.{refl, sym, ap, ◌∙◌}
use native.Mathlib.Omega.{arith}
use Rattle.std.proofs.lemmas.Result.{err_from_is_err_and}
use Rattle.records.specs.Sums.{plus}
use Rattle.records.specs.Step.{asset_cause, asset_sums}
use Rattle.records.proofs.Good.{asset_part}
use Rattle.records.proofs.SumLaws.{plus_none}
use Rattle.reading.proofs.AheadLaws.{sums_roomy, more_roomy}
use Rattle.reading.proofs.RunLaws.{Running, run_begins}
use Rattle.reading.proofs.ItemRuns.{run_ends, fault_found, assets_refused, asset_there, asset_within, asset_next}
use Rattle.reading.proofs.runs.assets.Goals as goal
use Rattle.reading.proofs.runs.assets.Goals.{then-standing+in_ok-at_place, else-standing}

pub loop-a-init : goal.loop-a-init
loop-a-init c = run_begins c.requires.0 (plus_none _)

pub read-a-requires : goal.read-a-requires
read-a-requires c = asset_there c.loop-a.invariant.sums_up_to (c.good_at.ensures ∙ asset_part c.args.book.now c.loop-a.at) c.loop-a-test.true

pub carried_by-carried-requires : goal.carried_by-carried-requires
carried_by-carried-requires c = rw c.read-a.ensures (asset_within c.loop-a.invariant.sums_up_to (c.good_at.ensures ∙ asset_part c.args.book.now c.loop-a.at) c.loop-a-test.true)

pub overflow_add-carried : goal.overflow_add-carried
overflow_add-carried c =
    let l = c.loop-a in
    let r = asset_next c.args.s l.carried l.deducted l.invariant (c.good_at.ensures ∙ asset_part c.args.book.now c.loop-a.at) c.loop-a-test.true (rw c.read-a.ensures at c.carried_by-carried.ensures) refl in
    omega (arith, (sums_roomy r.sums_up_to).assets)

pub overflow_add-deducted : goal.overflow_add-deducted
overflow_add-deducted c =
    omega (
      arith,
      (sums_roomy (let its_next : Running c.args.book.now c.args.s c.args.from (plus c.args.s (asset_sums (c.loop-a.carried + c.carried_by-carried.result) (c.loop-a.deducted + c.deducted_by-deducted.result))) (c.loop-a.at + 4) = let l = c.loop-a in
          let words = c.read-a.ensures in
          asset_next c.args.s l.carried l.deducted l.invariant (c.good_at.ensures ∙ asset_part c.args.book.now c.loop-a.at) c.loop-a-test.true (rw words at c.carried_by-carried.ensures) (rw words at c.deducted_by-deducted.ensures) in its_next).sums_up_to).deducted,
    )

pub loop-a-preserved : goal.loop-a-preserved
loop-a-preserved c =
    (let its_next : Running c.args.book.now c.args.s c.args.from (plus c.args.s (asset_sums (c.loop-a.carried + c.carried_by-carried.result) (c.loop-a.deducted + c.deducted_by-deducted.result))) (c.loop-a.at + 4) = let l = c.loop-a in
    let words = c.read-a.ensures in
    asset_next c.args.s l.carried l.deducted l.invariant (c.good_at.ensures ∙ asset_part c.args.book.now c.loop-a.at) c.loop-a-test.true (rw words at c.carried_by-carried.ensures) (rw words at c.deducted_by-deducted.ensures) in its_next)

pub returns-in_err-at_place : goal.returns-in_err-at_place
returns-in_err-at_place c =
    let p = err_from_is_err_and c.from_residual.result c.from_residual.ensures.1 in
    let at_place = c.in_err-at_place.ensures in
    rw (p.1, p.2, at_place.1) (
      assets_refused c.loop-a.invariant (c.good_at.ensures ∙ asset_part c.args.book.now c.loop-a.at) c.loop-a-test.false (sym c.standing.ensures ∙ c.if-standing.true) (at_place.0 ∙ c.check_at.ensures),
      tt,
    )

pub returns : goal.returns
returns c =
    elim c.if-standing.branch [
      | then-standing+in_ok-at_place w ↦
          absurd (
          fault_found 2 asset_cause c.args.book.now c.loop-a.at (c.good_at.ensures ∙ asset_part c.args.book.now c.loop-a.at) c.loop-a-test.false (sym c.standing.ensures ∙ w.if-standing.true)
          (sym w.in_ok-at_place.ensures ∙ w.check_at.ensures) refl
          )
      | else-standing w ↦
          run_ends c.loop-a.invariant 2 c.standing.ensures w.if-standing.false c.requires.1 (c.plus-with_assets.ensures ∙ ap (plus c.args.s) c.asset_sums.ensures)
    ]

pub asset_sums-requires : goal.asset_sums-requires
asset_sums-requires c = let h = sums_roomy c.loop-a.invariant.sums_up_to in (omega (arith, h.assets), omega (arith, h.deducted))

pub plus-with_assets-requires : goal.plus-with_assets-requires
plus-with_assets-requires c = (sums_roomy c.requires.0, rw c.asset_sums.ensures (more_roomy c.args.s _ (sums_roomy c.loop-a.invariant.sums_up_to)))
