-- Division, as one step of `share` needs it: Q and R are the quotient and the remainder of the share of x / 2. Assumes nothing.
use mathlib.Core.Path.{◌≡◌, ap, sym, ◌∙◌}
use Prim.Native.Nat.{ℕ, ◌+◌, ◌*◌, ◌/◌, ◌%◌, ◌≤◌, ◌<◌}
use native.Mathlib.Nat.{div-add-mod', mod-lt, mul-le-mul_left, mul-le-mul_right, div-le_of_le-mul}
use native.Mathlib.Omega.{arith}
use lib.Arith.{digits_div, digits_mod}

-- a share is at most the whole
share_le : (x p q : ℕ) → p ≤ q → x * p / q ≤ x
share_le x p q h = div-le_of_le-mul q (omega (arith, mul-le-mul_left x h))

-- the product fits where it would fit with the whole
pub product_le : (x p q most : ℕ) → p ≤ q → x ≤ most / q → x * p ≤ most
product_le x p q most h e = omega (arith, mul-le-mul_left x h, mul-le-mul_right q e, div-add-mod' most q)

-- the part of an odd x is counted at most once
part_le : (x p : ℕ) → x % 2 * p ≤ p
part_le x p =
    let h : x % 2 ≤ 1 = omega arith in
    omega (arith, mul-le-mul_right p h)

-- one step: that all of it fits, and that what it computes from Q and R is the quotient and the remainder of the share of x
pub record Step (x p q Q R : ℕ) : Type 0 where
  pub rest : R < q
  pub part : x % 2 * p ≤ p
  pub twice : 2 * Q ≤ x
  pub quotient : 2 * Q + (2 * R + x % 2 * p) / q ≡ x * p / q
  pub remainder : (2 * R + x % 2 * p) % q ≡ x * p % q
  pub within : x * p / q ≤ x

module _ (x p q Q R : ℕ) (p≤q : p ≤ q) (0<q : 0 < q) (eQ : Q ≡ x / 2 * p / q) (eR : R ≡ x / 2 * p % q) where
  half : Q * q + R ≡ x / 2 * p
  half = ap (λ (k : ℕ). k * q + R) eQ ∙ ap (λ (k : ℕ). x / 2 * p / q * q + k) eR ∙ div-add-mod' (x / 2 * p) q

  -- the products are unknowns to `omega`: x * p, x / 2 * p, x % 2 * p, Q * q and the new quotient times q
  whole : x * p ≡ (2 * Q + (2 * R + x % 2 * p) / q) * q + (2 * R + x % 2 * p) % q
  whole =
      let odd : x ≡ x / 2 * 2 + x % 2 = omega arith in
      omega (arith, half, ap (λ (k : ℕ). k * p) odd, div-add-mod' (2 * R + x % 2 * p) q)

  pub step : Step x p q Q R
  step =
      record {
        rest = omega (arith, mod-lt (x / 2 * p) 0<q);
        part = part_le x p;
        twice = omega (arith, share_le (x / 2) p q p≤q);
        quotient = sym (ap (λ (k : ℕ). k / q) whole ∙ digits_div _ (mod-lt _ 0<q));
        remainder = sym (ap (λ (k : ℕ). k % q) whole ∙ digits_mod _ (mod-lt _ 0<q));
        within = share_le x p q p≤q;
      }
