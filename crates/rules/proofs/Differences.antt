-- Whole numbers as differences of natural ones, by which a law of ℤ becomes one of ℕ that `omega` reads. Assumes nothing.
use Prim.Native.Nat.{ℕ, zero, suc, ◌+◌, ◌-◌, ◌*◌, ◌≤◌, ◌<◌}
use mathlib.Core.Path.{◌≡◌, refl, sym, ◌∙◌, ap, subst}
use mathlib.Core.Bool.{Bool, true, false}
use native.Mathlib.Omega.{arith}
use native.Mathlib.Decide.{dec_lt}
use borrow.Author.Tests.{lt-ltb, le-ltb, le-leb, lt-leb}
use lib.Dec.{T, leb, leb→le, le→leb}
use lib.IntN.{ℤ, pos, negsuc, neg_ℤ, sub_ℕ, ◌+ℤ◌, ◌*ℤ◌}
use lib.Signed.{le_z, ◌≤ℤ◌, le_z_yes}

-- z is a - b
pub record Difference (z : ℤ) (a b : ℕ) : Type 0 where
  pub is : z ≡ sub_ℕ a b

-- ---- the same by the sign of z, in ℕ

data Signed : ℤ → ℕ → ℕ → Type 0 where
  upward : (n a b : ℕ) → n + b ≡ a → Signed (pos n) a b
  downward : (n a b : ℕ) → a + suc n ≡ b → Signed (negsuc n) a b

known : {z : ℤ} {a b : ℕ} → Signed z a b → Difference z a b
known (upward n a b e) = let m : a - b ≡ n = omega arith in record { is = simp (le-ltb a b (omega arith), m) }
known (downward n a b e) = let m : b - suc a ≡ n = omega arith in record { is = simp (lt-ltb a b (omega arith), m) }

sign_of_sub : (a b : ℕ) → Signed (sub_ℕ a b) a b
sign_of_sub a b = go (dec_lt a b)
  where
    go : Dec (a < b) → Signed (sub_ℕ a b) a b
    go (yes h) = rw (lt-ltb a b h) (downward (b - suc a) a b (omega arith))
    go (no h) = rw (le-ltb a b (omega arith)) (upward (a - b) a b (omega arith))

by_sign : {z : ℤ} {a b : ℕ} → Difference z a b → Signed z a b
by_sign {a = a} {b} d = subst (λ (z : ℤ). Signed z a b) (sym d.is) (sign_of_sub a b)

moved : {z : ℤ} {a b : ℕ} (c d : ℕ) → Signed z a b → a + d ≡ c + b → Signed z c d
moved c d (upward n a b e) h = upward n c d (omega arith)
moved c d (downward n a b e) h = downward n c d (omega arith)

sign_of_minus : (n : ℕ) → Signed (neg_ℤ (pos n)) 0 n
sign_of_minus zero = upward 0 0 0 (omega arith)
sign_of_minus (suc n) = downward n 0 (suc n) (omega arith)

-- ---- where differences come from

pub of_pos : (n : ℕ) → Difference (pos n) n 0
of_pos n = known (upward n n 0 (omega arith))

pub of_minus : (n : ℕ) → Difference (neg_ℤ (pos n)) 0 n
of_minus n = known (sign_of_minus n)

pub of_sub : (a b : ℕ) → Difference (sub_ℕ a b) a b
of_sub a b = known (sign_of_sub a b)

-- every number is one
pub of_any : (z : ℤ) → (a : ℕ) × (b : ℕ) × Difference z a b
of_any (pos n) = (n, 0, of_pos n)
of_any (negsuc n) = (0, suc n, of_minus (suc n))

-- ---- equal numbers

-- the same number as another difference
pub as_difference : {z : ℤ} {a b : ℕ} (c d : ℕ) → Difference z a b → a + d ≡ c + b → Difference z c d
as_difference c d e h = known (moved c d (by_sign e) h)

pub same : {y z : ℤ} {a b : ℕ} → Difference y a b → Difference z a b → y ≡ z
same d e = d.is ∙ sym e.is

pub sub_neg : (a b : ℕ) → a < b → sub_ℕ a b ≡ negsuc (b - suc a)
sub_neg a b h = same (of_sub a b) (known (downward (b - suc a) a b (omega arith)))

-- ---- sums and multiples

pub plus : {y z : ℤ} {a b c d : ℕ} → Difference y a b → Difference z c d → Difference (y +ℤ z) (a + c) (b + d)
plus e f = known (go (by_sign e) (by_sign f))
  where
    go : {y z : ℤ} {a b c d : ℕ} → Signed y a b → Signed z c d → Signed (y +ℤ z) (a + c) (b + d)
    go (upward m a b e) (upward n c d f) = upward (m + n) (a + c) (b + d) (omega arith)
    go (upward m a b e) (downward n c d f) = moved _ _ (sign_of_sub m (suc n)) (omega arith)
    go (downward m a b e) (upward n c d f) = moved _ _ (sign_of_sub n (suc m)) (omega arith)
    go (downward m a b e) (downward n c d f) = downward (suc (m + n)) (a + c) (b + d) (omega arith)

pub times : (k : ℕ) {z : ℤ} {a b : ℕ} → Difference z a b → Difference (pos k *ℤ z) (k * a) (k * b)
times k e = known (go (by_sign e))
  where
    go : {z : ℤ} {a b : ℕ} → Signed z a b → Signed (pos k *ℤ z) (k * a) (k * b)
    go (upward n a b e) = upward (k * n) (k * a) (k * b) (omega (arith, ap (λ (m : ℕ). k * m) e))
    go (downward n a b e) = moved _ _ (sign_of_minus (k * suc n)) (omega (arith, ap (λ (m : ℕ). k * m) e))

pub times_minus : (k m : ℕ) → pos k *ℤ neg_ℤ (pos m) ≡ neg_ℤ (pos (k * m))
times_minus k m = same (times k (of_minus m)) (as_difference _ _ (of_minus (k * m)) (omega arith))

-- ---- the order

pub in_order : {y z : ℤ} {a b c d : ℕ} → Difference y a b → Difference z c d → y ≤ℤ z → a + d ≤ c + b
in_order e f = go (by_sign e) (by_sign f)
  where
    go : {y z : ℤ} {a b c d : ℕ} → Signed y a b → Signed z c d → y ≤ℤ z → a + d ≤ c + b
    go (upward m a b e) (upward n c d f) h = omega (arith, leb→le m n h.le)
    go (upward m a b e) (downward n c d f) h = absurd h.le
    go (downward m a b e) (upward n c d f) h = omega arith
    go (downward m a b e) (downward n c d f) h = omega (arith, leb→le n m h.le)

pub ordered : {y z : ℤ} {a b c d : ℕ} → Difference y a b → Difference z c d → a + d ≤ c + b → y ≤ℤ z
ordered e f = go (by_sign e) (by_sign f)
  where
    go : {y z : ℤ} {a b c d : ℕ} → Signed y a b → Signed z c d → a + d ≤ c + b → y ≤ℤ z
    go (upward m a b e) (upward n c d f) h = le_z_yes (le→leb m n (omega arith))
    go (upward m a b e) (downward n c d f) h = let z : ⊥ = omega arith in absurd z
    go (downward m a b e) (upward n c d f) h = le_z_yes tt
    go (downward m a b e) (downward n c d f) h = le_z_yes (le→leb n m (omega arith))

-- the test of it
pub test_is : {y z : ℤ} {a b c d : ℕ} → Difference y a b → Difference z c d → le_z y z ≡ leb (a + d) (c + b)
test_is {y} {z} {a} {b} {c} {d} e f = go (le_z y z) refl
  where
    go : (t : Bool) → le_z y z ≡ t → t ≡ leb (a + d) (c + b)
    go true q = sym (le-leb (a + d) (c + b) (in_order e f (le_z_yes (subst T (sym q) tt))))
    go false q = below (dec_lt (c + b) (a + d))
      where
        below : Dec (c + b < a + d) → false ≡ leb (a + d) (c + b)
        below (yes h) = sym (lt-leb (a + d) (c + b) h)
        below (no h) = absurd (subst T q (ordered e f (omega arith)).le)
