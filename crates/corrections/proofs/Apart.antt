-- How far two numbers are apart, and two sums over lists that are equal but in one place. Assumes nothing.
use Prim.Native.Nat.{ℕ, suc, ◌+◌, ◌-◌, min, ◌≤◌, ◌<◌}
use mathlib.Core.Path.{◌≡◌, ◌∙◌, ap}
use mathlib.Core.Bool.{Bool, true, false, cond}
use mathlib.Core.List.{List, ◌∷◌, ◌++◌}
use native.Mathlib.Omega.{arith}
use native.Mathlib.Decide.{dec_lt}
use borrow.Author.Tests.{lt-ltb, le-ltb}
use lib.IntN.{ℤ, pos, negsuc, nat_abs, neg_ℤ, sub_ℕ}
use lib.Signed.{≤ℤ_refl}
use Rattle.rules.specs.Word.{bit_of, size_of, gain_of, loss_of}
use Rattle.rules.specs.Book.{total}
use Rattle.rules.proofs.Lists.{total_append}
use Rattle.rules.proofs.Differences.{Difference, of_pos, of_minus, of_sub, as_difference, plus, in_order}
use Rattle.cuts.proofs.Steps.{OneOther}
use Rattle.corrections.specs.Claims.{apart, signed_of}

-- two natural numbers
abbrev pub gap : ℕ → ℕ → ℕ
gap m n = (m - n) + (n - m)

-- ---- whole numbers

abs_sub : (m n : ℕ) → nat_abs (sub_ℕ m n) ≡ gap m n
abs_sub m n = go (dec_lt m n)
  where
    go : Dec (m < n) → nat_abs (sub_ℕ m n) ≡ gap m n
    go (yes h) = rw (lt-ltb m n h) (omega arith)
    go (no h) = rw (le-ltb m n (omega arith)) (omega arith)

opposite : (z : ℤ) {a b : ℕ} → Difference z a b → Difference (neg_ℤ z) b a
opposite (pos n) d = as_difference _ _ (of_minus n) (omega (arith, in_order d (of_pos n) (≤ℤ_refl (pos n)), in_order (of_pos n) d (≤ℤ_refl (pos n))))
opposite (negsuc n) d =
    as_difference _ _ (of_pos (suc n)) (omega (arith, in_order d (of_minus (suc n)) (≤ℤ_refl (negsuc n)), in_order (of_minus (suc n)) d (≤ℤ_refl (negsuc n))))

differences_apart : {y z : ℤ} {a b c d : ℕ} → Difference y a b → Difference z c d → apart y z ≡ gap (a + d) (b + c)
differences_apart {z = z} {a} {b} {c} {d} e f = ap nat_abs (plus e (opposite z f)).is ∙ abs_sub (a + d) (b + c)

-- two that are not negative
pub whole_apart : (m n : ℕ) → apart (pos m) (pos n) ≡ gap m n
whole_apart m n = omega (arith, differences_apart (of_pos m) (of_pos n))

-- ---- amounts

-- a gain or a loss of just its size
one_sign : (w : ℕ) → (min (gain_of w) (loss_of w) ≡ 0) × (gain_of w + loss_of w ≡ size_of w)
unfolding gain_of loss_of
one_sign w = go (bit_of 27 w)
  where
    go : (b : Bool) → (min (cond b 0 (size_of w)) (cond b (size_of w) 0) ≡ 0) × (cond b 0 (size_of w) + cond b (size_of w) 0 ≡ size_of w)
    go true = omega arith
    go false = omega arith

module _ (w v : ℕ) where
  signed_apart : apart (signed_of w) (signed_of v) ≡ gap (gain_of w + loss_of v) (loss_of w + gain_of v)
  signed_apart = differences_apart (of_sub (gain_of w) (loss_of w)) (of_sub (gain_of v) (loss_of v))

  -- so neither the gains of two amounts nor their sizes are further apart than the amounts
  pub gains_apart : gap (gain_of w) (gain_of v) ≤ apart (signed_of w) (signed_of v)
  gains_apart = omega (arith, signed_apart, (one_sign w).0, (one_sign v).0)

  pub sizes_apart : gap (size_of w) (size_of v) ≤ apart (signed_of w) (signed_of v)
  sizes_apart = omega (arith, signed_apart, (one_sign w).0, (one_sign w).1, (one_sign v).0, (one_sign v).1)

-- ---- sums

-- two lists that are equal but in one place, and how they are related there
pub record OneOf {A : Type 0} (Rel : A → A → Type 0) (l m : List A) : Type 0 where
  pub before : List A
  pub first : A
  pub second : A
  pub after : List A
  pub related : Rel first second
  pub is_first : l ≡ before ++ first ∷ after
  pub is_second : m ≡ before ++ second ∷ after

-- as the records of two books are that differ in one word
pub one_of : {A : Type 0} {Rel : A → A → Type 0} {R S : ℕ → A → ℕ → Type 0} {J : ℕ → A → A → ℕ → Type 0} {k start : ℕ} {l m : List A} (c : OneOther R S J k start l m)
    → Rel c.first c.second → OneOf Rel l m
one_of c r = record { before = c.before; first = c.first; second = c.second; after = c.after; related = r; is_first = c.is_first; is_second = c.is_second }

module _ {A : Type 0} {Rel : A → A → Type 0} (f : A → ℕ) {l m : List A} (o : OneOf Rel l m) where
  -- what the one has more there, its sum has more
  one_more : total f l + f o.second ≡ total f m + f o.first
  one_more =
      rw (o.is_first, o.is_second)
      (omega (arith, total_append f o.before (o.first ∷ o.after), total_append f o.before (o.second ∷ o.after)))

  -- so their sums are no further apart than what they have there,
  pub one_apart : (d : ℕ) → ((a b : A) → Rel a b → gap (f a) (f b) ≤ d) → gap (total f l) (total f m) ≤ d
  one_apart d h = omega (arith, one_more, h o.first o.second o.related)

  -- the second is larger by just what it has more there,
  pub one_rises : (d : ℕ) → ((a b : A) → Rel a b → f b ≡ f a + d) → total f m ≡ total f l + d
  one_rises d h = omega (arith, one_more, h o.first o.second o.related)

  -- and the same where that is
  pub one_same : ((a b : A) → Rel a b → f a ≡ f b) → total f l ≡ total f m
  one_same h = omega (arith, one_more, h o.first o.second o.related)
