-- Years from 2000 on: their leap days, and the year of a day. Assumes nothing.
use Prim.Native.Nat.{ℕ, suc, ◌+◌, ◌-◌, ◌*◌, ◌/◌, ◌%◌, ◌<◌, ◌≤◌}
use mathlib.Core.Path.{◌≡◌, refl}
use mathlib.Core.Bool.{Bool, true, false, cond, not, ◌&&◌, ◌||◌}
use native.Mathlib.Omega.{arith}
use lib.Dec.{eqb}
use borrow.Author.Tests.{eqb-true, eqb-false}
use Rattle.rules.specs.Calendar.{leap_days, year_days, days_of, date_in, date_of, last_date}
use Rattle.rules.proofs.Below.{all, below}
use Rattle.calendar.proofs.Periods.{found}
use Rattle.calendar.proofs.Months.{past}

-- A year divisible by 4 has a leap day; not so one divisible by 100, unless it is by 400. (1 - x is 1 where x is 0, else 0.)
pub leap_rule : (y : ℕ) → leap_days y + (1 - y % 100) ≡ (1 - y % 4) + (1 - y % 400)
unfolding leap_days
leap_rule y = by (eqb (y % 4) 0) (eqb (y % 100) 0) (eqb (y % 400) 0) refl refl refl
  where
    by :
        (a b c : Bool)
        → eqb (y % 4) 0 ≡ a
        → eqb (y % 100) 0 ≡ b
        → eqb (y % 400) 0 ≡ c
        → cond ((a && not b) || c) 1 0 + (1 - y % 100) ≡ (1 - y % 4) + (1 - y % 400)
    by false b false f g h = omega (arith, eqb-true, eqb-false)
    by false b true f g h = omega (arith, eqb-true, eqb-false)
    by true false c f g h = omega (arith, eqb-true, eqb-false)
    by true true false f g h = omega (arith, eqb-true, eqb-false)
    by true true true f g h = omega (arith, eqb-true, eqb-false)

pub leap_small : (y : ℕ) → leap_days y < 2
leap_small y = omega (arith, leap_rule y)

-- of five years at most two have one, as far as the bands reach
pub two_of_five : (a : ℕ) → a < 101 → days_of leap_days (2000 + a) 5 - 2 ≡ 0
unfolding all days_of leap_days
two_of_five = below _ _ _ refl

-- the days of the a years from 2000 on, as long as every fourth has a leap day
new_year : (a : ℕ) → a < 101 → days_of year_days 2000 a ≡ 365 * a + (a + 3) / 4
unfolding all days_of leap_days
new_year = below _ _ _ refl

-- how many ends of February, from that of 2000 on, day n has behind it, where 29 February has its own behind it; the year of the next
abbrev pub februaries : ℕ → ℕ
februaries n = (4 * n + 1225) / 1461

abbrev pub next_february : ℕ → ℕ
next_february n = 2000 + februaries n

-- day n by its year and the day of that year
pub record InYear (n : ℕ) : Type 0 where
  pub year : ℕ
  pub day : ℕ
  pub from_2000 : 2000 ≤ year
  pub below_2100 : year < 2100
  pub sum : n ≡ days_of year_days 2000 (year - 2000) + day
  pub within : day < year_days year
  pub is : date_of n ≡ date_in year day
  pub next : next_february n ≡ year + past day

pub in_year : (n : ℕ) → n ≤ last_date → InYear n
unfolding days_of date_of
in_year n h =
    let a : ℕ = 4 * n / 1461 in
    let d : ℕ = n - (365 * a + (a + 3) / 4) in
    let e : 2000 + a - 2000 ≡ a = omega arith in
    let s : n ≡ days_of year_days 2000 a + d = omega (arith, new_year a (omega arith)) in
    let l : d < year_days (2000 + a) = omega (arith, new_year a (omega arith), new_year (suc a) (omega arith)) in
    record {
      year = 2000 + a;
      day = d;
      from_2000 = omega arith;
      below_2100 = omega arith;
      sum = rw e s;
      within = l;
      is = rw (found year_days 104 2000 a (2000 + a) d n refl (omega arith) s l);
      next = omega arith;
    }
