-- THE CLAIM of specs/MoreMarks: with more marks set already, no fewer settings lead to a verdict that is not a failure. Assumes nothing.
use Prim.Native.Nat.{ℕ}
use mathlib.Core.Path.{◌≡◌, refl}
use mathlib.Core.List.{List}
use mathlib.Core.Option.{Option}
use native.Mathlib.Omega.{arith}
use lib.ListN.{length}
use Rattle.rules.specs.declared.Entry.{Entry}
use Rattle.rules.specs.Book.{Item, Placed}
use Rattle.rules.specs.Filing.{Outcome, admission, outcome_of}
use Rattle.rules.specs.TwoDesks.{MoreRecognised}
use Rattle.two_desks.proofs.Related.{MoreItem}
use Rattle.two_desks.proofs.Outcomes.{Outcomes, outcomes}
use Rattle.settings.specs.Settings.{turned_away, verdict_with, counted_item, counted_set, counted_in, counting}
use Rattle.papers.specs.MoreMarks.{NoFewer, MoreMarksNoFewer}
use Rattle.papers.proofs.Verdicts.{not_worse}
use Rattle.papers.proofs.Counts.{counts_more}
use Rattle.papers.proofs.SideBySide.{Beside, set_beside}

-- a refusal beside the same one
refused_both : (number place : ℕ) → NoFewer (turned_away number place) (turned_away number place)
refused_both number place = record { number = refl; place = refl; good = omega arith; empty = omega arith }

module _ (xs ys : List ℕ) (register register' : List Entry) (l : MoreRecognised xs ys) (n : length register ≡ length register') where
  by_item : (head : ℕ) {i j : Item} → MoreItem i j → NoFewer (counted_item xs register head i) (counted_item ys register' head j)
  by_item head (MoreItem.of_assets m) = refused_both 15 0
  by_item head (MoreItem.for_derivatives m) = counts_more (verdict_with xs register head) (verdict_with ys register' head) (not_worse xs ys register register' l n head)
  by_item head (MoreItem.for_financing m) = refused_both 15 0
  by_item head MoreItem.for_off_balance = refused_both 15 0

  by_set : (o p : Option Placed) → Beside o p → NoFewer (counted_set xs register o) (counted_set ys register' p)
  by_set o p Beside.nothing = refused_both 15 0
  by_set o p (Beside.both {p = a} m) = rw (← m.begin) (by_item a.begin m.item)

  by_outcome : (ordinal : ℕ) (a b : Outcome) → Outcomes a b → NoFewer (counted_in xs ordinal register a) (counted_in ys ordinal register' b)
  by_outcome ordinal a b (Outcomes.earlies {number}) = refused_both number 0
  by_outcome ordinal a b (Outcomes.refusals {number} {place}) = refused_both number place
  by_outcome ordinal a b (Outcomes.acceptances r) = by_set _ _ (set_beside r ordinal)

-- with as many rows as a filing needs, the outcome is the admission
pub more_marks_no_fewer : MoreMarksNoFewer
unfolding counting outcome_of
more_marks_no_fewer xs ys ordinal register register' l n =
    rw (← n) (by_outcome xs ys register register' l n ordinal (admission xs (length register)) (admission ys (length register)) (outcomes xs ys l 22 (length register)))
