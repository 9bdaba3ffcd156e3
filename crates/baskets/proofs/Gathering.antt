-- The loop over the words behind the amounts: what it has gathered, with the grades ahead, comes to all of them. A word behind the last grade
-- counts as 0, which changes neither the bits nor the count. Assumes nothing.
use Prim.Native.Nat.{ℕ, zero, suc, ◌+◌, ◌-◌, ◌*◌, ◌^◌, ◌≤◌, ◌<◌}
use mathlib.Core.Path.{◌≡◌, refl, sym, ◌∙◌, ap}
use mathlib.Core.Bool.{Bool, true, false, cond}
use mathlib.Core.List.{List, [], ◌∷◌}
use native.Mathlib.Omega.{arith}
use native.Mathlib.Nat.{add-zero, add_assoc, zero-add}
use native.Mathlib.Numerals.{add-one}
use borrow.Author.Tests.{ltb-true, ltb-false}
use lib.Bits.{or_zero_r}
use lib.Dec.{ltb}
use lib.ListN.{length, take, drop, get_or, length-take, drop_of_length-le, get_or-eq_default}
use lib.Seq.{drop-cons, get_or-take}
use Rattle.baskets.specs.declared.grades.Grades.{Grades}
use Rattle.baskets.specs.Grades.{counted_at, with_grade, plus_grades, grades_of}

-- ---- a word behind the last name counts as 0

module _ (w i names : ℕ) {behind : ℕ} (none : i < names → behind ≡ 0) (one : names ≤ i → behind ≡ 1) where
  pub counted_is : w * (1 - behind) ≡ counted_at names i w
  counted_is = go (ltb i names) refl
    where
      go : (b : Bool) → ltb i names ≡ b → w * (1 - behind) ≡ cond b w 0
      go true e = rw (none (ltb-true i names e)) (omega arith)
      go false e = rw (one (ltb-false i names e)) (omega arith)

pub fits_less : (w behind : ℕ) → w < 2 ^ 32 → w * (1 - behind) < 2 ^ 32
fits_less w zero l = omega arith
fits_less w (suc n) l =
    let none : 1 - suc n ≡ 0 = omega arith in
    rw none (omega arith)

-- so it is the word at its place among the grades alone, which is 0 behind them
counted_grade : (n : ℕ) (ws : List ℕ) (i : ℕ) → counted_at n i (get_or ws i 0) ≡ get_or (take n ws) i 0
counted_grade n ws i = go (ltb i n) refl
  where
    go : (b : Bool) → ltb i n ≡ b → cond b (get_or ws i 0) 0 ≡ get_or (take n ws) i 0
    go true e = sym (get_or-take n ws i 0 (ltb-true i n e))
    go false e = sym (get_or-eq_default (take n ws) 0 (omega (arith, length-take n ws, ltb-false i n e)))

-- ---- the loop

pub record Gathering (gs : List ℕ) (g : Grades) (i : ℕ) : Type 0 where
  pub all : plus_grades g (drop i gs) ≡ grades_of gs
  pub few : g.failing ≤ i

abbrev pub no_grades : Grades
no_grades = record { all = 0; failing = 0 }

pub gathering_start : (gs : List ℕ) → Gathering gs no_grades 0
gathering_start gs = record { all = simp zero-add; few = omega arith }

one_more : (g : Grades) (w : ℕ) (ws : List ℕ) → plus_grades (with_grade g w) ws ≡ plus_grades g (w ∷ ws)
one_more g w ws = simp add_assoc

with_zero : (g : Grades) → with_grade g 0 ≡ g
with_zero g = simp (or_zero_r, add-zero)

step : (gs : List ℕ) (g : Grades) (i : ℕ) → plus_grades (with_grade g (get_or gs i 0)) (drop (suc i) gs) ≡ plus_grades g (drop i gs)
step gs g i = go (ltb i (length gs)) refl
  where
    go : (b : Bool) → ltb i (length gs) ≡ b → plus_grades (with_grade g (get_or gs i 0)) (drop (suc i) gs) ≡ plus_grades g (drop i gs)
    go true e = one_more g (get_or gs i 0) (drop (suc i) gs) ∙ ap (plus_grades g) (sym (drop-cons gs i 0 (ltb-true i (length gs) e)))
    go false e =
        let l = ltb-false i (length gs) e in
        rw (get_or-eq_default gs 0 l, drop_of_length-le gs l, drop_of_length-le gs {i = suc i} (omega arith))
        (ap (λ (h : Grades). plus_grades h []) (with_zero g))

pub gathering_next : (n : ℕ) (ws : List ℕ) {g : Grades} {i : ℕ} → Gathering (take n ws) g i → {w : ℕ} → w ≡ counted_at n i (get_or ws i 0)
    → {h : Grades} → (h ≡ with_grade g w) × (h.failing ≤ suc g.failing) → Gathering (take n ws) h (i + 1)
gathering_next n ws {g} {i} s e (q, one) =
    rw (add-one i)
    (record { all = rw (q, e, counted_grade n ws i) (step (take n ws) g i ∙ s.all); few = omega (arith, s.few, one) })

pub gathering_end : (n : ℕ) (ws : List ℕ) {g : Grades} {i : ℕ} → Gathering (take n ws) g i → length ws ≤ i → g ≡ grades_of (take n ws)
gathering_end n ws {i = i} s l =
    let none : length (take n ws) ≤ i = omega (arith, length-take n ws) in
    simp add-zero at (rw (drop_of_length-le (take n ws) none) at s.all)
