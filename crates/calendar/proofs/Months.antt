-- The days of a year by its months, where the year has p leap days. Assumes nothing.
use Prim.Native.Nat.{ℕ, zero, suc, ◌+◌, ◌-◌, ◌<◌, min}
use mathlib.Core.Path.{◌≡◌, refl}
use mathlib.Core.Bool.{true}
use native.Mathlib.Omega.{arith}
use lib.ListN.{get_or}
use Rattle.rules.specs.Calendar.{Within, months, days_of, after}
use Rattle.rules.proofs.Below.{all, agree, each, below}

abbrev pub month_of : (p month : ℕ) → ℕ
month_of p month = get_or (months p) (month - 1) 0

-- the month of day d
abbrev pub month_at : (p d : ℕ) → Within
month_at p d = after (month_of p) 11 1 d

-- the day of the year of a date; where there is no such date, of the last of the month
abbrev pub day_at : (q : ℕ) → Within → ℕ
day_at q m = days_of (month_of q) 1 (m.period - 1) + (min (m.over + 1) (month_of q m.period) - 1)

-- the day of the date of day d in a year with q leap days
unfoldable pub moved : (p q d : ℕ) → ℕ
moved p q d = day_at q (month_at p d)

-- 0 up to 28 February, then 1
abbrev pub past : ℕ → ℕ
past d = min 1 (d - 58)

-- an equation for years of both kinds
of_both :
    (f g : (p d : ℕ) → ℕ) (bound : ℕ → ℕ)
    → all (λ p. agree (f p) (g p) (bound p)) 2 ≡ true
    → (p d : ℕ)
    → p < 2
    → d < bound p
    → f p d ≡ g p d
of_both f g bound t p d h l = below (f p) (g p) (bound p) (each (λ p. agree (f p) (g p) (bound p)) 2 t p h) d l

-- The same date is the same day up to 28 February, and then the leap days of both years count; so they do for 29 February, which goes to
-- the 28th where there is none.
pub same_day : (q : ℕ) → q < 2 → (p d : ℕ) → p < 2 → d < 365 + p → moved p q d + min p (past d) ≡ d + min q (past d)
unfolding all after days_of moved
same_day zero k = of_both _ _ _ refl
same_day (suc zero) k = of_both _ _ _ refl
same_day (suc (suc q)) k = absurd (omega arith)

-- 0 for a day of a month, since what is at most another number has the difference 0
abbrev pub beyond : (p : ℕ) → Within → ℕ
beyond p m = (1 - m.period) + (m.period - 12) + (m.over + 1 - month_of p m.period)

pub real_day : (p d : ℕ) → p < 2 → d < 365 + p → beyond p (month_at p d) ≡ 0
unfolding all after
real_day = of_both _ _ _ refl

pub day_sum : (p d : ℕ) → p < 2 → d < 365 + p → days_of (month_of p) 1 ((month_at p d).period - 1) + (month_at p d).over ≡ d
unfolding all after days_of
day_sum = of_both _ _ _ refl

-- a month has a day, and its days are days of the year
pub month_fits :
    (p month : ℕ)
    → p < 2
    → month < 13
    → (1 - month_of p month) + (days_of (month_of p) 1 (month - 1) + month_of p month - (365 + p)) ≡ 0
unfolding all days_of
month_fits = of_both _ _ _ refl
