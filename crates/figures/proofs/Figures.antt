-- The conversion figures: looked up in the table of the code they are those of document 01, and 0 exactly where a class is faulty.
-- Assumes nothing.
use mathlib.Core.Path.{◌≡◌, sym, ◌∙◌}
use mathlib.Core.Bool.{Bool, true, ◌&&◌, ◌||◌, or-false}
use mathlib.Core.List.{List, [], ◌∷◌}
use Prim.Native.Nat.{ℕ, zero, suc, min, ◌+◌, ◌-◌, ◌≤◌}
use native.Mathlib.Nat.{min-eq_left, zero-min, min-zero, suc-min-suc}
use native.Mathlib.Numerals.{add-one}
use native.Mathlib.Omega.{arith}
use borrow.Author.Tests.{ne_eqb}
use mir.Facts.{and_yes}
use lib.Dec.{T, eqb, leb, ltb, eqb-suc-zero, leb-zero, leb-suc-zero, leb-suc-suc, ltb→lt}
use lib.ListN.{get_or, length}
use Rattle.rules.specs.Factors.{conversions, conversion_at, conversion_of}
use Rattle.laws.proofs.FactorBounds.{conversion_at_most}
use Rattle.words.proofs.Padded.{padded}
use Rattle.figures.specs.Figures.{conversion_figures}

-- ---- the table of the code

own_figure : (class : ℕ) → get_or conversion_figures (class + 1) 0 ≡ conversion_at class
own_figure class = rw add-one (padded conversions 5 class)

at_most : (class : ℕ) → conversion_at class ≤ 1000
unfolding conversion_of
at_most class = conversion_at_most class 0

-- where an item is committed to, the lower of two applies
committed_to : (class k : ℕ) → conversion_of class (suc k) ≡ min (conversion_at class) (conversion_at k)
unfolding conversion_of
committed_to class k =
    let e : suc k - 1 ≡ k = omega arith in
    simp (eqb-suc-zero k, e)

pub looked_up :
    (figures : List ℕ) (class committed : ℕ)
    → figures ≡ conversion_figures
    → conversion_of class committed ≡ min (get_or figures (class + 1) 0) (get_or figures committed 0)
unfolding conversion_of
looked_up figures class committed e = rw e (rw own_figure (go committed))
  where
    go : (committed : ℕ) → conversion_of class committed ≡ min (conversion_at class) (get_or conversion_figures committed 0)
    go zero = sym (min-eq_left (at_most class))
    go (suc k) = committed_to class k ∙ rw (padded conversions 5 k)

-- ---- faulty classes: no figure of the eleven is 0, by one computed test

abbrev no_zero : List ℕ → Bool
no_zero [] = true
no_zero (x ∷ xs) = ltb 0 x && no_zero xs

none_beyond : (xs : List ℕ) (k : ℕ) → T (no_zero xs) → eqb (get_or xs k 0) 0 ≡ leb (length xs) k
none_beyond [] k t = sym (leb-zero k)
none_beyond (x ∷ xs) zero t =
    let h = ltb→lt 0 x (and_yes (ltb 0 x) (no_zero xs) t).0 in
    ne_eqb x 0 (omega arith) ∙ sym (leb-suc-zero (length xs))
none_beyond (x ∷ xs) (suc k) t = none_beyond xs k (and_yes (ltb 0 x) (no_zero xs) t).1 ∙ sym (leb-suc-suc (length xs) k)

none_at : (class : ℕ) → eqb (conversion_at class) 0 ≡ ltb 10 class
none_at class = none_beyond conversions class tt

lower_none : (a b : ℕ) → eqb (min a b) 0 ≡ (eqb a 0 || eqb b 0)
lower_none zero b = rw zero-min
lower_none (suc a) zero = rw (min-zero, eqb-suc-zero)
lower_none (suc a) (suc b) = simp (suc-min-suc, eqb-suc-zero)

pub no_figure : (class committed : ℕ) → eqb (conversion_of class committed) 0 ≡ (ltb 10 class || ltb 11 committed)
unfolding conversion_of
no_figure class zero = none_at class ∙ sym (or-false (ltb 10 class))
no_figure class (suc k) = rw (committed_to class k, lower_none (conversion_at class) (conversion_at k), none_at class, none_at k, leb-suc-suc 11 k)
