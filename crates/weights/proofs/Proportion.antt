-- What stays in of an add-on is worked out by one division: that it is the one rounded up, and that the product fits. Assumes nothing.
use mathlib.Core.Path.{◌≡◌, ap, ◌∙◌}
use Prim.Native.Nat.{ℕ, ◌+◌, ◌-◌, ◌*◌, ◌/◌, ◌^◌, ◌≤◌, ◌<◌}
use native.Mathlib.Nat.{mul-le-mul, add-mul-div_right, le-div_iff_mul-le}
use native.Mathlib.Omega.{arith}
use Rattle.rules.specs.Weighted.{ceil}
use Rattle.rules.proofs.Ceil.{ceil_by_adding}

-- one less than the divisor on top, and a multiple of it, which comes off again
pub raised : (z x y more : ℕ) → 0 < y → z ≡ x + (more * y + (y - 1)) → z / y - more ≡ ceil x y
raised z x y more h e =
    let f : z ≡ x + (y - 1) + more * y = omega arith in
    let g = ap (λ (a : ℕ). a / y) f ∙ add-mul-div_right (x + (y - 1)) more h in
    omega (arith, ceil_by_adding x y h)

-- whatever stands on top of the multiple, it can be taken off
pub raised_enough : (z y more : ℕ) → 0 < y → more * y ≤ z → more ≤ z / y
raised_enough z y more h l = (le-div_iff_mul-le h).1 l

-- an add-on of at most 100 per thousand of a notional, times a part of the notional
pub product_small : (add_on part notional : ℕ) → part ≤ notional → add_on ≤ 100 * notional → notional < 2 ^ 27 → add_on * part < 2 ^ 63
product_small add_on part notional l h n = let m = mul-le-mul {n₁ = add_on} {m₁ = part} {n₂ = 100 * 2 ^ 27} {m₂ = 2 ^ 27} (omega arith) (omega arith) in omega arith
