-- Periods one after the other, years or months: each day is found in its own. Assumes nothing.
use Prim.Native.Nat.{ℕ, zero, suc, ◌+◌, ◌-◌, ◌<◌, ◌≤◌}
use mathlib.Core.Path.{◌≡◌, refl}
use native.Mathlib.Nat.{add-zero}
use native.Mathlib.Numerals.{add-one}
use native.Mathlib.Omega.{arith}
use borrow.Author.Tests.{lt-ltb, le-ltb}
use Rattle.rules.specs.Calendar.{days_of, after}

module _ (days : ℕ → ℕ) where
  -- the days of none of them, and of one more
  pub none_of : (first : ℕ) → days_of days first 0 ≡ 0
  unfolding days_of
  none_of first = refl

  pub one_more : (first k : ℕ) → days_of days first (k + 1) ≡ days_of days first k + days (first + k)
  unfolding days_of
  one_more first k = rw (add-one k) refl

  -- the first of them, taken off at the front
  pub first_off : (first k : ℕ) → days_of days first (suc k) ≡ days first + days_of days (first + 1) k
  unfolding days_of
  first_off first zero = rw (add-zero first) (omega arith)
  first_off first (suc k) =
      let e : first + suc k ≡ first + 1 + k = omega arith in
      rw e (omega (arith, first_off first k))

  -- a day of the period that is j after the first
  pub found :
      (k first j period over n : ℕ)
      → period ≡ first + j
      → j ≤ k
      → n ≡ days_of days first j + over
      → over < days period
      → after days k first n ≡ record { period = period; over = over }
  unfolding after days_of
  found zero first (suc j) period over n e h s l = absurd (omega arith)
  found zero first zero period over n e h s l =
      let f : period ≡ first = omega arith in
      let g : n ≡ over = omega arith in
      cc
  found (suc k) first zero period over n e h s l =
      let f : period ≡ first = omega arith in
      let g : n ≡ over = omega arith in
      let o : n < days first = rw (g, ← f) l in
      rw (lt-ltb n (days first) o) (cc)
  found (suc k) first (suc j) period over n e h s l =
      let z = first_off first j in
      rw (le-ltb n (days first) (omega arith))
      (found k (first + 1) j period over (n - days first) (omega arith) (omega arith) (omega arith) l)
