-- The ends of the bands by the leap days up to them. Assumes nothing.
use Prim.Native.Nat.{ℕ, zero, suc, ◌+◌, ◌-◌, ◌*◌, ◌<◌, ◌≤◌, min}
use mathlib.Core.Path.{◌≡◌, refl}
use native.Mathlib.Nat.{add-zero}
use native.Mathlib.Omega.{arith}
use Rattle.rules.specs.Calendar.{year_days, leap_days, days_of, after, date_in, date_of, day_of, later, days_to, bands_of, last_date}
use Rattle.calendar.specs.Claims.{AllCounted, AtSamples}
use Rattle.calendar.proofs.Periods.{first_off}
use Rattle.calendar.proofs.Months.{moved, past, same_day}
use Rattle.calendar.proofs.Years.{leap_small, two_of_five, februaries, next_february, in_year}

-- the same date j years later, by its year and the day of that year
later_day :
    (j y d : ℕ) → day_of (later j (date_in y d)) ≡ days_of year_days 2000 (y + j - 2000) + moved (leap_days y) (leap_days (y + j)) d
unfolding date_in day_of later moved
later_day j y d = omega arith

-- the days of j years more
more_years :
    (j y : ℕ) → 2000 ≤ y → days_of year_days 2000 (y + j - 2000) ≡ days_of year_days 2000 (y - 2000) + 365 * j + days_of leap_days y j
unfolding days_of
more_years zero y h = rw (add-zero y) (omega arith)
more_years (suc j) y h =
    let e : y + suc j - 2000 ≡ suc (y + j - 2000) = omega arith in
    let f : 2000 + (y + j - 2000) ≡ y + j = omega arith in
    rw (e, f) (omega (arith, more_years j y h))

-- the leap days of j years, from a year on or from the next
from_next :
    (b y j : ℕ) → b < 2 → days_of leap_days (y + b) j + min (leap_days y) b ≡ days_of leap_days y j + min (leap_days (y + j)) b
unfolding days_of
from_next zero y j h = rw (add-zero y) (omega arith)
from_next (suc zero) y j h = omega (arith, first_off leap_days y j, leap_small y, leap_small (y + j))
from_next (suc (suc b)) y j h = absurd (omega arith)

-- The days to the same date j years later: 365 a year, and the leap days of the j years from that of the next end of February on.
pub ends : (j n : ℕ) → n ≤ last_date → days_to j n ≡ 365 * j + days_of leap_days (next_february n) j
ends j n h =
    let w = in_year n h in
    let y = w.year in
    let z = y + j in
    rw (w.is, w.next, later_day)
    (omega (
      arith,
      more_years j y w.from_2000,
      from_next (past w.day) y j (omega arith),
      same_day (leap_days z) (leap_small z) (leap_days y) w.day (leap_small y) w.within,
    ))

-- so for one year and five; y is that year
pub bands_are :
    {y : ℕ} (n short medium : ℕ)
    → n ≤ last_date
    → y ≡ next_february n
    → short ≡ 365 * 1 + days_of leap_days y 1
    → medium ≡ 365 * 5 + days_of leap_days y 5
    → record { short = short; medium = medium } ≡ bands_of n
unfolding bands_of
bands_are n short medium h e s m =
    let a : short ≡ days_to 1 n = omega (arith, rw (← e) at (ends 1 n h)) in
    let b : medium ≡ days_to 5 n = omega (arith, rw (← e) at (ends 5 n h)) in
    λ i. record { short = a i; medium = b i }

pub counted : AllCounted
unfolding days_of bands_of
counted n h =
    omega (arith, ends 1 n h, leap_small (next_february n + 0), ends 5 n h, two_of_five (februaries n) (omega arith))

pub at_samples : AtSamples
unfolding leap_days days_of after date_in date_of day_of later bands_of
at_samples = refl
