-- The claims of the n-th worst grade. Assumes nothing.
use Prim.Native.Nat.{ℕ, zero, suc, ◌+◌, ◌-◌, ◌≤◌}
use mathlib.Core.Path.{◌≡◌, refl, sym, ◌∙◌, ap}
use mathlib.Core.Bool.{Bool, true, false, cond}
use mathlib.Core.List.{List, [], ◌∷◌}
use native.Mathlib.Omega.{arith}
use borrow.Author.Tests.{leb-true, leb-false, ltb-true, ltb-false, lt-ltb, le-ltb, le-leb, lt-leb}
use lib.Dec.{leb, ltb, leb-suc-suc}
use lib.ListN.{length, get_or}
use Rattle.rules.specs.Weigh.{insert_down, sorted_down, nth_worst, last_qualifying}
use Rattle.baskets.specs.Grades.{count_above}
use Rattle.baskets.specs.Claims.{NoneAbove, Falls, NthWorst}

-- ---- sorted downwards

none_above_more : (g h : ℕ) → g ≤ h → (gs : List ℕ) → NoneAbove g gs → NoneAbove h gs
none_above_more g h l [] n = tt
none_above_more g h l (x ∷ xs) (p, n) = (omega arith, none_above_more g h l xs n)

none_above_insert : (g h : ℕ) (hs : List ℕ) → g ≤ h → NoneAbove h hs → NoneAbove h (insert_down g hs)
none_above_insert g h [] l n = (l, tt)
none_above_insert g h (x ∷ xs) l (p, n) = go (leb x g) (none_above_insert g h xs l n)
  where
    go : (b : Bool) → NoneAbove h (insert_down g xs) → NoneAbove h (cond b (g ∷ x ∷ xs) (x ∷ insert_down g xs))
    go true r = (l, (p, n))
    go false r = (p, r)

insert_falls : (g : ℕ) (hs : List ℕ) → Falls hs → Falls (insert_down g hs)
insert_falls g [] f = (tt, tt)
insert_falls g (h ∷ hs) (n, f) = go (leb h g) refl (insert_falls g hs f)
  where
    go : (b : Bool) → leb h g ≡ b → Falls (insert_down g hs) → Falls (cond b (g ∷ h ∷ hs) (h ∷ insert_down g hs))
    go true e r = let l = leb-true h g e in ((l, none_above_more h g l hs n), (n, f))
    go false e r = (none_above_insert g h hs (omega (arith, leb-false h g e)) n, r)

sorted_falls : (gs : List ℕ) → Falls (sorted_down gs)
unfolding sorted_down
sorted_falls [] = tt
sorted_falls (g ∷ gs) = insert_falls g (sorted_down gs) (sorted_falls gs)

-- ---- the same grades

insert_long : (g : ℕ) (hs : List ℕ) → length (insert_down g hs) ≡ suc (length hs)
insert_long g [] = refl
insert_long g (h ∷ hs) = go (leb h g) (insert_long g hs)
  where
    go : (b : Bool) → length (insert_down g hs) ≡ suc (length hs) → length (cond b (g ∷ h ∷ hs) (h ∷ insert_down g hs)) ≡ suc (length (h ∷ hs))
    go true r = refl
    go false r = ap suc r

sorted_long : (gs : List ℕ) → length (sorted_down gs) ≡ length gs
unfolding sorted_down
sorted_long [] = refl
sorted_long (g ∷ gs) = insert_long g (sorted_down gs) ∙ ap suc (sorted_long gs)

module _ (k : ℕ) where
  insert_count : (g : ℕ) (hs : List ℕ) → count_above k (insert_down g hs) ≡ cond (ltb k g) 1 0 + count_above k hs
  insert_count g [] = refl
  insert_count g (h ∷ hs) = go (leb h g) (insert_count g hs)
    where
      go : (b : Bool) → count_above k (insert_down g hs) ≡ cond (ltb k g) 1 0 + count_above k hs
          → count_above k (cond b (g ∷ h ∷ hs) (h ∷ insert_down g hs)) ≡ cond (ltb k g) 1 0 + count_above k (h ∷ hs)
      go true r = refl
      go false r = omega (arith, r)

  sorted_count : (gs : List ℕ) → count_above k (sorted_down gs) ≡ count_above k gs
  unfolding sorted_down
  sorted_count [] = refl
  sorted_count (g ∷ gs) = insert_count g (sorted_down gs) ∙ ap (λ (n : ℕ). cond (ltb k g) 1 0 + n) (sorted_count gs)

  -- ---- in grades that fall, those above k stand first

  count_none : (gs : List ℕ) → NoneAbove k gs → count_above k gs ≡ 0
  count_none [] n = refl
  count_none (g ∷ gs) (p, n) = rw (le-ltb k g p) (omega (arith, count_none gs n))

  place_none : (gs : List ℕ) → NoneAbove k gs → (i : ℕ) → get_or gs i 0 ≤ k
  place_none [] n i = omega arith
  place_none (g ∷ gs) (p, n) zero = p
  place_none (g ∷ gs) (p, n) (suc i) = place_none gs n i

  one_on : (i n : ℕ) → ltb i n ≡ ltb (suc i) (1 + n)
  one_on i n = sym (leb-suc-suc (suc i) n) ∙ ap (leb (suc (suc i))) (omega arith)

  falls_above : (gs : List ℕ) → Falls gs → (i : ℕ) → ltb k (get_or gs i 0) ≡ ltb i (count_above k gs)
  falls_above [] f i = le-ltb k 0 (omega arith) ∙ sym (le-ltb i 0 (omega arith))
  falls_above (g ∷ gs) (n, f) i = go (ltb k g) refl i (falls_above gs f)
    where
      go : (b : Bool) → ltb k g ≡ b → (i : ℕ) → ((j : ℕ) → ltb k (get_or gs j 0) ≡ ltb j (count_above k gs)) → ltb k (get_or (g ∷ gs) i 0) ≡ ltb i (cond b 1 0 + count_above k gs)
      go true e zero r = e ∙ sym (lt-ltb 0 (1 + count_above k gs) (omega arith))
      go true e (suc i) r = r i ∙ one_on i (count_above k gs)
      go false e i r =
          let l = ltb-false k g e in
          let m = none_above_more g k l gs n in
          le-ltb k (get_or (g ∷ gs) i 0) (place_none (g ∷ gs) (l, m) i) ∙ sym (le-ltb i (0 + count_above k gs) (omega (arith, count_none gs m)))

  worst_above : (nth : ℕ) (gs : List ℕ) → 1 ≤ nth → ltb k (nth_worst nth gs) ≡ leb nth (count_above k gs)
  worst_above nth gs h =
      let from_one : suc (nth - 1) ≡ nth = omega arith in
      falls_above (sorted_down gs) (sorted_falls gs) (nth - 1) ∙ ap (ltb (nth - 1)) (sorted_count gs) ∙ ap (λ (n : ℕ). leb n (count_above k gs)) from_one

pub nth_worst_lem : NthWorst
nth_worst_lem = record {
  sorted = λ gs. record { falls = sorted_falls gs; long = sorted_long gs; same = λ k. sorted_count k gs };
  by_count = worst_above;
}

-- ---- so a basket qualifies where fewer than n of its grades do not

pub qualifies : (nth : ℕ) (gs : List ℕ) → 1 ≤ nth → ltb (count_above last_qualifying gs) nth ≡ leb (nth_worst nth gs) last_qualifying
qualifies nth gs h = go (nth_worst nth gs) (count_above last_qualifying gs) (ltb last_qualifying (nth_worst nth gs)) refl (worst_above last_qualifying nth gs h)
  where
    go : (worst failing : ℕ) (b : Bool) → ltb last_qualifying worst ≡ b → ltb last_qualifying worst ≡ leb nth failing → ltb failing nth ≡ leb worst last_qualifying
    go worst failing true e f = le-ltb failing nth (leb-true nth failing (sym f ∙ e)) ∙ sym (lt-leb worst last_qualifying (ltb-true _ _ e))
    go worst failing false e f = lt-ltb failing nth (leb-false nth failing (sym f ∙ e)) ∙ sym (le-leb worst last_qualifying (ltb-false _ _ e))
