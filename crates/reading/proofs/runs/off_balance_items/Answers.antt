-- The loop over off-balance items, as the laws of a run say. Assumes nothing.
use Prim.Native.Nat.{◌+◌}
use mathlib.Core.Path.{refl, sym, ap, ◌∙◌}
use native.Mathlib.Omega.{arith}
use Rattle.std.proofs.lemmas.Result.{err_from_is_err_and}
use Rattle.rules.specs.Read.{off_balance_at}
use Rattle.records.specs.Sums.{plus}
use Rattle.records.specs.Step.{off_balance_cause, off_balance_sums}
use Rattle.records.proofs.Good.{off_balance_part}
use Rattle.records.proofs.SumLaws.{plus_none}
use Rattle.reading.proofs.AheadLaws.{sums_roomy, more_roomy}
use Rattle.reading.proofs.RunLaws.{Running, run_begins}
use Rattle.reading.proofs.ItemRuns.{run_ends, fault_found, off_balance_refused, off_balance_there, off_balance_next}
use Rattle.reading.proofs.runs.off_balance_items.Goals as goal
use Rattle.reading.proofs.runs.off_balance_items.Goals.{then-standing+in_ok-at_place, else-standing}

pub loop-figures-init : goal.loop-figures-init
loop-figures-init c = run_begins c.requires.0 (plus_none _)

pub read-o-requires : goal.read-o-requires
read-o-requires c = off_balance_there c.loop-figures.invariant.sums_up_to (c.good_at.ensures ∙ off_balance_part c.args.book.now c.loop-figures.at) c.loop-figures-test.true

pub overflow_add-notionals : goal.overflow_add-notionals
overflow_add-notionals c = omega (arith, (sums_roomy c.loop-figures.invariant.sums_up_to).committed, c.from-notionals.ensures, c.size.ensures)

pub overflow_add-unconverted : goal.overflow_add-unconverted
unfolding off_balance_at
overflow_add-unconverted c =
    omega (
      arith,
      (sums_roomy (let its_next : Running c.args.book.now c.args.s c.args.from (plus c.args.s (off_balance_sums (c.loop-figures.notionals + c.from-notionals.result) (c.loop-figures.unconverted + c.unconverted_by-unconverted.result))) (c.loop-figures.at + 2) = let l = c.loop-figures in
          let words = c.read-o.ensures in
          off_balance_next c.args.s l.notionals l.unconverted l.invariant (c.good_at.ensures ∙ off_balance_part c.args.book.now c.loop-figures.at) c.loop-figures-test.true
          (c.from-notionals.ensures ∙ rw words at c.size.ensures) (rw words at c.unconverted_by-unconverted.ensures) in its_next).sums_up_to).unconverted,
    )

pub loop-figures-preserved : goal.loop-figures-preserved
unfolding off_balance_at
loop-figures-preserved c =
    (let its_next : Running c.args.book.now c.args.s c.args.from (plus c.args.s (off_balance_sums (c.loop-figures.notionals + c.from-notionals.result) (c.loop-figures.unconverted + c.unconverted_by-unconverted.result))) (c.loop-figures.at + 2) = let l = c.loop-figures in
    let words = c.read-o.ensures in
    off_balance_next c.args.s l.notionals l.unconverted l.invariant (c.good_at.ensures ∙ off_balance_part c.args.book.now c.loop-figures.at) c.loop-figures-test.true
    (c.from-notionals.ensures ∙ rw words at c.size.ensures) (rw words at c.unconverted_by-unconverted.ensures) in its_next)

pub returns-in_err-at_place : goal.returns-in_err-at_place
returns-in_err-at_place c =
    let p = err_from_is_err_and c.from_residual.result c.from_residual.ensures.1 in
    let at_place = c.in_err-at_place.ensures in
    rw (p.1, p.2, at_place.1) (
      off_balance_refused c.loop-figures.invariant (c.good_at.ensures ∙ off_balance_part c.args.book.now c.loop-figures.at) c.loop-figures-test.false (sym c.standing.ensures ∙ c.if-standing.true) (at_place.0 ∙ c.check_at.ensures),
      tt,
    )

pub returns : goal.returns
returns c =
    elim c.if-standing.branch [
      | then-standing+in_ok-at_place w ↦
          absurd (
          fault_found 10 off_balance_cause c.args.book.now c.loop-figures.at (c.good_at.ensures ∙ off_balance_part c.args.book.now c.loop-figures.at) c.loop-figures-test.false (sym c.standing.ensures ∙ w.if-standing.true)
          (sym w.in_ok-at_place.ensures ∙ w.check_at.ensures) refl
          )
      | else-standing w ↦
          run_ends c.loop-figures.invariant 10 c.standing.ensures w.if-standing.false c.requires.1 (c.plus-with_commitments.ensures ∙ ap (plus c.args.s) c.off_balance_sums.ensures)
    ]

pub off_balance_sums-requires : goal.off_balance_sums-requires
off_balance_sums-requires c = omega (arith, (sums_roomy c.loop-figures.invariant.sums_up_to).committed)

pub plus-with_commitments-requires : goal.plus-with_commitments-requires
plus-with_commitments-requires c = (sums_roomy c.requires.0, rw c.off_balance_sums.ensures (more_roomy c.args.s _ (sums_roomy c.loop-figures.invariant.sums_up_to)))
