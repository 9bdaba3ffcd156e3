-- How large the products of an add-on are, a written default swap's, and what does not stay in. Assumes nothing.
use Prim.Native.Nat.{ℕ, ◌-◌, ◌*◌, ◌^◌, ◌≤◌, ◌<◌, min}
use mathlib.Core.Path.{◌≡◌, refl}
use mathlib.Core.Bool.{Bool, true, false, cond}
use native.Mathlib.Omega.{arith}
use native.Mathlib.Nat.{mul-le-mul, min-zero}

-- 38,250 is 150 times 255
pub two_factors : (x y : ℕ) → x ≤ 150 → y < 2 ^ 8 → x * y ≤ 38250
two_factors x y f p = mul-le-mul {n₁ = x} {m₁ = y} {n₂ = 150} {m₂ = 255} f (omega arith)

pub three_factors : (x y z : ℕ) → x ≤ 150 → y < 2 ^ 8 → z < 2 ^ 27 → x * y * z ≤ 38250 * 2 ^ 27
three_factors x y z f p n = mul-le-mul {n₁ = x * y} {m₁ = z} {n₂ = 38250} {m₂ = 2 ^ 27} (two_factors x y f p) (omega arith)

-- without a close-out clause the lesser of a product and no premiums is 0
pub bounded_is : (total_return close_out : Bool) (product premiums : ℕ)
    → cond total_return product (min product (cond close_out premiums 0)) ≡ cond total_return product (cond close_out (min product premiums) 0)
bounded_is true close_out product premiums = refl
bounded_is false true product premiums = refl
bounded_is false false product premiums = min-zero product

-- cut at 0, a difference is the same by the lesser of the two
pub remainder_is : (add_on kept : ℕ) → add_on - min add_on kept ≡ add_on - kept
remainder_is add_on kept = omega arith
