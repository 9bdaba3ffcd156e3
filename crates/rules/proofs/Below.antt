-- An equation at each number below a bound, by one computation. Assumes nothing.
use Prim.Native.Nat.{ℕ, zero, suc, ◌<◌}
use mathlib.Core.Path.{◌≡◌, refl}
use mathlib.Core.Bool.{Bool, true, false, ◌&&◌}
use native.Mathlib.Omega.{arith}
use lib.Dec.{eqb}
use borrow.Author.Tests.{eqb-true, eqb-false}
use Rattle.rules.proofs.Lists.{and_left, and_right}

unfoldable pub all : (test : ℕ → Bool) (k : ℕ) → Bool
all test zero = true
all test (suc k) = test k && all test k

pub each : (test : ℕ → Bool) (k : ℕ) → all test k ≡ true → (n : ℕ) → n < k → test n ≡ true
unfolding all
each test zero t n h = absurd (omega arith)
each test (suc k) t n h = last (eqb n k) refl (each test k (and_right (test k) (all test k) t) n)
  where
    last : (b : Bool) → eqb n k ≡ b → (n < k → test n ≡ true) → test n ≡ true
    last true e r = rw (eqb-true n k e) (and_left (test k) (all test k) t)
    last false e r = r (omega (arith, eqb-false))

abbrev pub agree : (f g : ℕ → ℕ) (k : ℕ) → Bool
agree f g k = all (λ n. eqb (f n) (g n)) k

pub below : (f g : ℕ → ℕ) (k : ℕ) → agree f g k ≡ true → (n : ℕ) → n < k → f n ≡ g n
below f g k t n h = eqb-true (f n) (g n) (each (λ n. eqb (f n) (g n)) k t n h)
