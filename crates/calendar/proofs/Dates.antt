-- Days and dates lead to one another, and a band ends on the same date. Assumes nothing.
use Prim.Native.Nat.{ℕ, ◌+◌, ◌-◌, ◌<◌, ◌≤◌}
use mathlib.Core.Path.{◌≡◌, refl}
use native.Mathlib.Omega.{arith}
use Rattle.rules.specs.Calendar.{Date, leap_days, year_days, month_days, days_of, after, date_in, date_of, day_of, later, days_to, bands_of}
use Rattle.calendar.specs.Claims.{Real, HasDate, HasDay, EndsOn, Dates}
use Rattle.calendar.proofs.Periods.{found}
use Rattle.calendar.proofs.Months.{real_day, day_sum, month_fits}
use Rattle.calendar.proofs.Years.{leap_small, in_year}
use Rattle.calendar.proofs.Ends.{ends}

pub has_date : HasDate
unfolding date_in day_of
has_date n h =
    let w = in_year n h in
    let p = leap_days w.year in
    let l = leap_small w.year in
    rw w.is (omega (arith, real_day p w.day l w.within), omega (arith, day_sum p w.day l w.within))

pub has_day : HasDay
unfolding date_in date_of day_of
has_day d r =
    let y = d.year in
    let m = d.month in
    let e = d.day - 1 in
    let x : ℕ = days_of (month_days y) 1 (m - 1) + e in
    let l : x < year_days y = omega (arith, month_fits (leap_days y) m (leap_small y) (omega arith)) in
    let f : e + 1 ≡ d.day = omega arith in
    rw (
      found year_days 104 2000 (y - 2000) y x (day_of d) (omega arith) (omega arith) (omega arith) l,
      found (month_days y) 11 1 (m - 1) m e x (omega arith) (omega arith) refl (omega arith),
      f,
    )

later_real : (k : ℕ) (d : Date) → k ≤ 5 → Real 2099 d → Real 2104 (later k d)
unfolding later
later_real k d h r =
    let y = d.year + k in
    omega (arith, month_fits (leap_days y) d.month (leap_small y) (omega arith))

pub ends_on : EndsOn
ends_on k n a b h =
    let e : n + days_to k n ≡ day_of (later k (date_of n)) = omega (arith, ends k n h) in
    rw e (has_day (later k (date_of n)) (later_real k (date_of n) b (has_date n h).0))

pub all_dates : Dates
unfolding leap_days days_of after date_in date_of day_of later bands_of
all_dates = (refl, (refl, (refl, (refl, (refl, (refl, (refl, (refl, (refl, tt)))))))))
