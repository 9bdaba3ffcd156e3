-- Request A.2, "A year is a calendar year": the civil calendar, and the ends of the bands of a reporting date. A day is counted from
-- 1 January 2000, which is day 0. Assumes nothing.
use Rattle.std.specs.Prelude.{ℕ, zero, suc, ◌+◌, ◌-◌, ◌%◌, min, Bool, cond, not, ◌&&◌, ◌||◌, List, [], ◌∷◌, eqb, ltb, get_or}
use Rattle.rules.specs.declared.Bands.{Bands}

-- "the reporting date as days since 1 January 2000, 0 to 36,524", which is 31 December 2099
abbrev pub last_date : ℕ
last_date = 36524

-- ---- years and months

abbrev pub divides : (k n : ℕ) → Bool
divides k n = eqb (n % k) 0

-- a leap year is divisible by 4 and not by 100, or by 400
abbrev pub leap : ℕ → Bool
leap year = (divides 4 year && not (divides 100 year)) || divides 400 year

-- how many 29ths of February a year has
unfoldable pub leap_days : ℕ → ℕ
leap_days year = cond (leap year) 1 0

abbrev pub year_days : ℕ → ℕ
year_days year = 365 + leap_days year

-- January to December of a year with so many leap days
abbrev pub months : ℕ → List ℕ
months more = 31 ∷ (28 + more) ∷ 31 ∷ 30 ∷ 31 ∷ 30 ∷ 31 ∷ 31 ∷ 30 ∷ 31 ∷ 30 ∷ 31 ∷ []

-- January is month 1
abbrev pub month_days : (year month : ℕ) → ℕ
month_days year month = get_or (months (leap_days year)) (month - 1) 0

-- ---- periods one after the other: years, or months

-- the days of k of them, from a first one on
unfoldable pub days_of : (days : ℕ → ℕ) (first k : ℕ) → ℕ
days_of days first zero = 0
days_of days first (suc k) = days_of days first k + days (first + k)

-- one of them, by its number, and how many days of it are over
pub record Within : Type 0 where
  pub period : ℕ
  pub over : ℕ

-- that in which day n lies, where the first begins with day 0; at most k are passed
unfoldable pub after : (days : ℕ → ℕ) (k first n : ℕ) → Within
after days zero first n = record { period = first; over = n }
after days (suc k) first n =
    let later = after days k (first + 1) (n - days first) in
    cond (ltb n (days first)) (record { period = first; over = n }) later

-- ---- dates

pub record Date : Type 0 where
  pub year : ℕ
  pub month : ℕ
  pub day : ℕ

abbrev pub date : (year month day : ℕ) → Date
date year month day = record { year = year; month = month; day = day }

-- the date n days after 1 January of a year
unfoldable pub date_in : (year n : ℕ) → Date
date_in year n = let m = after (month_days year) 11 1 n in date year m.period (m.over + 1)

-- the date n days after 1 January 2000, up to the year 2104, in which the last of the bands ends
unfoldable pub date_of : ℕ → Date
date_of n = let y = after year_days 104 2000 n in date_in y.period y.over

-- and back: the days from 1 January 2000 to a date
unfoldable pub day_of : Date → ℕ
day_of d =
    days_of year_days 2000 (d.year - 2000) + days_of (month_days d.year) 1 (d.month - 1) + (d.day - 1)

-- ---- "A band ends on the same calendar day one or five years later, 29 February going to 28 February where there is none": no other
-- month is shorter in another year
unfoldable pub later : (k : ℕ) → Date → Date
later k d = date (d.year + k) d.month (min d.day (month_days (d.year + k) d.month))

-- the days from a day to the same date k years later
abbrev pub days_to : (k n : ℕ) → ℕ
days_to k n = day_of (later k (date_of n)) - n

unfoldable pub bands_of : ℕ → Bands
bands_of n = record { short = days_to 1 n; medium = days_to 5 n }
