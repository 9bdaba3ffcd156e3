-- How large a signed number is: `nat_abs` is the number without its sign. Assumes nothing.
use Prim.Native.Nat.{ℕ, zero, suc, ◌+◌, ◌-◌, ◌*◌, ◌≤◌}
use mathlib.Core.Path.{◌≡◌, refl}
use mathlib.Core.Bool.{Bool, true, false, cond}
use native.Mathlib.Omega.{arith}
use native.Mathlib.Nat.{div-le_self}
use borrow.Author.Tests.{ltb-true}
use lib.Dec.{ltb}
use lib.IntN.{ℤ, pos, negsuc, nat_abs, neg_ℤ, sub_ℕ, ◌+ℤ◌, ◌*ℤ◌}
use lib.Signed.{mag, le_z}
use Rattle.rules.specs.Ratio.{floor, ratio_of, tier1_of}

pub mag_at_most : (z : ℤ) → mag z ≤ nat_abs z
mag_at_most (pos n) = omega arith
mag_at_most (negsuc n) = omega arith

pub minus_at_most : (n : ℕ) → nat_abs (neg_ℤ (pos n)) ≤ n
minus_at_most zero = omega arith
minus_at_most (suc n) = omega arith

pub difference_at_most : (a b : ℕ) → nat_abs (sub_ℕ a b) ≤ a + b
difference_at_most a b = go (ltb a b) refl
  where
    go : (t : Bool) → ltb a b ≡ t → nat_abs (cond t (negsuc (b - suc a)) (pos (a - b))) ≤ a + b
    go true e = omega (arith, ltb-true a b e)
    go false e = omega arith

pub sum_at_most : (x y : ℤ) → nat_abs (x +ℤ y) ≤ nat_abs x + nat_abs y
sum_at_most (pos a) (pos b) = omega arith
sum_at_most (pos a) (negsuc b) = difference_at_most a (suc b)
sum_at_most (negsuc a) (pos b) = omega (arith, difference_at_most b (suc a))
sum_at_most (negsuc a) (negsuc b) = omega arith

pub times_at_most : (c : ℕ) (z : ℤ) → nat_abs (pos c *ℤ z) ≤ c * nat_abs z
times_at_most c (pos n) = omega arith
times_at_most c (negsuc n) = minus_at_most (c * suc n)

floor_at_most : (z : ℤ) (d : ℕ) → nat_abs (floor z d) ≤ nat_abs z
floor_at_most (pos a) d = div-le_self a d
floor_at_most (negsuc a) d = omega (arith, div-le_self a d)

-- row 20, and row 22 by row 20
pub tier1_at_most : (gain loss : ℕ) → nat_abs (tier1_of gain loss) ≤ 1000 * (gain + loss)
tier1_at_most gain loss = omega (arith, times_at_most 1000 (sub_ℕ gain loss), difference_at_most gain loss)

pub ratio_at_most : (tier1 exposure : ℤ) → nat_abs (ratio_of tier1 exposure) ≤ 10000 * nat_abs tier1
unfolding ratio_of
ratio_at_most tier1 exposure = go (le_z exposure (pos 0))
  where
    go : (t : Bool) → nat_abs (cond t (pos 0) (floor (pos 10000 *ℤ tier1) (nat_abs exposure))) ≤ 10000 * nat_abs tier1
    go true = omega arith
    go false = omega (arith, floor_at_most (pos 10000 *ℤ tier1) (nat_abs exposure), times_at_most 10000 tier1)
