-- What is claimed of the n-th worst grade, for any grades, counts and thresholds. Assumes nothing.
use Rattle.std.specs.Prelude.{ℕ, ◌≤◌, ◌≡◌, List, [], ◌∷◌, leb, ltb, length}
use Rattle.rules.specs.Weigh.{sorted_down, nth_worst}
use Rattle.baskets.specs.Grades.{count_above}

-- none of these is above a grade
abbrev pub NoneAbove : ℕ → List ℕ → Type 0
NoneAbove g [] = Unit {0}
NoneAbove g (h ∷ hs) = (h ≤ g) × NoneAbove g hs

-- none is above one that stands before it
abbrev pub Falls : List ℕ → Type 0
Falls [] = Unit {0}
Falls (g ∷ gs) = NoneAbove g gs × Falls gs

-- the sorted grades fall, and are the same: as many, and as many above any grade
pub record Sorted (grades : List ℕ) : Type 0 where
  pub falls : Falls (sorted_down grades)
  pub long : length (sorted_down grades) ≡ length grades
  pub same : (k : ℕ) → count_above k (sorted_down grades) ≡ count_above k grades

-- the n-th worst is above a grade exactly where at least n are
pub record NthWorst : Type 0 where
  pub sorted : (grades : List ℕ) → Sorted grades
  pub by_count : (k nth : ℕ) (grades : List ℕ) → 1 ≤ nth → ltb k (nth_worst nth grades) ≡ leb nth (count_above k grades)
