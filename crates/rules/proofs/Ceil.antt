-- Rounding up: `ceil a b` is the least c with a ≤ c * b. All else about it follows from these two laws. Assumes nothing.
use mathlib.Core.Path.{◌≡◌}
use Prim.Native.Nat.{ℕ, zero, suc, ◌+◌, ◌-◌, ◌*◌, ◌/◌, ◌%◌, min, ◌≤◌, ◌<◌}
use native.Mathlib.Nat.{div-add-mod', mod-lt, le_trans, mul-le-mul_left, le_of_mul-le-mul_right, lt_of_mul-lt-mul_right}
use native.Mathlib.Omega.{arith}
use Rattle.rules.specs.Weighted.{ceil}

-- by the remainder r: none, or some, for which one more is added
enough : (q r b : ℕ) → r < b → q * b + r ≤ (q + min 1 r) * b
enough q zero b r<b = omega arith
enough q (suc k) b r<b =
    let one : min 1 (suc k) ≡ 1 = omega arith in
    rw one (omega arith)

least : (q r b c : ℕ) → q * b + r ≤ c * b → 0 < b → q + min 1 r ≤ c
least q zero b c h 0<b = le_of_mul-le-mul_right (omega arith) 0<b
least q (suc k) b c h 0<b =
    let q<c : q < c = lt_of_mul-lt-mul_right b (omega arith) in
    omega arith

pub ceil_enough : (a b : ℕ) → 0 < b → a ≤ ceil a b * b
ceil_enough a b 0<b = omega (arith, enough (a / b) (a % b) b (mod-lt a 0<b), div-add-mod' a b)

pub ceil_least : (a b c : ℕ) → 0 < b → a ≤ c * b → ceil a b ≤ c
ceil_least a b c 0<b h = least (a / b) (a % b) b c (omega (arith, div-add-mod' a b)) 0<b

pub ceil_mono : (a a' b : ℕ) → 0 < b → a ≤ a' → ceil a b ≤ ceil a' b
ceil_mono a a' b 0<b h = ceil_least a b (ceil a' b) 0<b (le_trans h (ceil_enough a' b 0<b))

-- rounded up together, no more than one by one
pub ceil_plus : (a b d : ℕ) → 0 < d → ceil (a + b) d ≤ ceil a d + ceil b d
ceil_plus a b d 0<d = ceil_least (a + b) d (ceil a d + ceil b d) 0<d (omega (arith, ceil_enough a d 0<d, ceil_enough b d 0<d))

-- one less than the divisor on top, and rounded down
pub ceil_by_adding : (a b : ℕ) → 0 < b → (a + (b - 1)) / b ≡ ceil a b
ceil_by_adding a b 0<b =
    let q = (a + (b - 1)) / b in
    let whole = div-add-mod' (a + (b - 1)) b in
    let rest = mod-lt (a + (b - 1)) 0<b in
    let most = ceil_least a b q 0<b (omega arith) in
    let least : q < ceil a b + 1 = lt_of_mul-lt-mul_right b (omega (arith, ceil_enough a b 0<b)) in
    omega arith

-- so that what fits a machine word still fits when it is divided
pub ceil_small : (a b : ℕ) → 0 < b → ceil a b ≤ a
ceil_small a b 0<b = ceil_least a b a 0<b (omega (arith, mul-le-mul_left a 0<b))
