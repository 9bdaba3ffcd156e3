-- The word at hand is the one, or is left behind. Assumes nothing.
use mathlib.Core.Path.{sym, ◌∙◌}
use Rattle.sets.proofs.SearchLaws.{place_over, place_here, place_passed, place_other}
use Rattle.sets.proofs.search.one_by_one.Goals as goal
use Rattle.sets.proofs.search.one_by_one.Goals.{then-passes+else-left-eq0, else-passes}

pub returns-then-left-eq0-clause-place : goal.returns-then-left-eq0-clause-place
returns-then-left-eq0-clause-place g c test t =
    let here = place_here test c.args.words.now c.loop-i.i c.loop-i-test.true (sym (t _ _ c.if-passes.ensures)) in
    (sym here ∙ rw c.if-left-eq0.true at (c.loop-i.invariant test t), c.loop-i-test.true)

pub loop-i-preserved : goal.loop-i-preserved
loop-i-preserved g c test t =
    elim c.if-passes.branch [
      | then-passes+else-left-eq0 w ↦ rw w.left-is (sym (place_passed test c.args.words.now c.loop-i.i c.loop-i.left c.loop-i-test.true (sym (t _ _ w.if-passes.ensures)) w.if-left-eq0.false) ∙ c.loop-i.invariant test t)
      | else-passes w ↦ rw w.left-is (sym (place_other test c.args.words.now c.loop-i.i c.loop-i.left c.loop-i-test.true (sym (t _ _ w.if-passes.ensures))) ∙ c.loop-i.invariant test t)
    ]

pub returns-clause-place : goal.returns-clause-place
returns-clause-place g c test t = sym (c.loop-i.invariant test t) ∙ place_over test c.args.words.now c.loop-i.i c.loop-i.left c.loop-i-test.false
