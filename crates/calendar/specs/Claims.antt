-- Request A.2: what is claimed of the calendar and of the ends of the bands. Assumes nothing.
use Rattle.std.specs.Prelude.{ℕ, ◌+◌, ◌≤◌, ◌≡◌, List, [], ◌∷◌}
use Rattle.rules.specs.declared.Bands.{Bands}
use Rattle.rules.specs.Calendar.{Date, date, date_of, day_of, later, days_to, month_days, bands_of, last_date}

-- ---- the calendar

-- a date that there is, in the years from 2000 to a last
pub record Real (last : ℕ) (d : Date) : Type 0 where
  pub from_2000 : 2000 ≤ d.year
  pub to_last_year : d.year ≤ last
  pub from_january : 1 ≤ d.month
  pub to_december : d.month ≤ 12
  pub from_first : 1 ≤ d.day
  pub to_last_day : d.day ≤ month_days d.year d.month

-- each reporting date is a date that there is, and leads back to its day
abbrev pub HasDate : Type 0
HasDate = (n : ℕ) → n ≤ last_date → Real 2099 (date_of n) × (day_of (date_of n) ≡ n)

-- and each date that there is leads to a day and back, up to the year in which the last of the bands ends
abbrev pub HasDay : Type 0
HasDay = (d : Date) → Real 2104 d → date_of (day_of d) ≡ d

-- ---- the ends of the bands

-- "A band ends on the same calendar day one or five years later": the counted days lead to that date
abbrev pub EndsOn : Type 0
EndsOn = (k n : ℕ) → 1 ≤ k → k ≤ 5 → n ≤ last_date → date_of (n + days_to k n) ≡ later k (date_of n)

-- a year has one leap day or none, and five years have at most two
pub record Counted (b : Bands) : Type 0 where
  pub a_year : 365 ≤ b.short
  pub one_more : b.short ≤ 366
  pub five_years : 1825 ≤ b.medium
  pub two_more : b.medium ≤ 1827

abbrev pub AllCounted : Type 0
AllCounted = (n : ℕ) → n ≤ last_date → Counted (bands_of n)

-- ---- by figures

-- "the date 35,124 (1 March 2096), from which those counts are still 365 and 1,825"
abbrev pub AtSamples : Type 0
AtSamples = bands_of 35124 ≡ record { short = 365; medium = 1825 }

-- a day with its date, the days to the ends of its bands, and the date on which the second of them ends
pub record Listed : Type 0 where
  pub day : ℕ
  pub on : Date
  pub bands : Bands
  pub end : Date

abbrev listed : (day : ℕ) (on : Date) (short medium : ℕ) (end : Date) → Listed
listed day on short medium end = record { day = day; on = on; bands = record { short = short; medium = medium }; end = end }

-- the first day and the last, the end of February before a leap year and in one, and before 2100, which is none
abbrev pub listed_dates : List Listed
listed_dates =
    listed 0 (date 2000 1 1) 366 1827 (date 2005 1 1)
    ∷ listed 1154 (date 2003 2 28) 365 1826 (date 2008 2 28)
    ∷ listed 1155 (date 2003 3 1) 366 1827 (date 2008 3 1)
    ∷ listed 1519 (date 2004 2 28) 366 1827 (date 2009 2 28)
    ∷ listed 1520 (date 2004 2 29) 365 1826 (date 2009 2 28)
    ∷ listed 1521 (date 2004 3 1) 365 1826 (date 2009 3 1)
    ∷ listed 35123 (date 2096 2 29) 365 1825 (date 2101 2 28)
    ∷ listed 35124 (date 2096 3 1) 365 1825 (date 2101 3 1)
    ∷ listed last_date (date 2099 12 31) 365 1826 (date 2104 12 31)
    ∷ []

-- as the calendar gives them for a date
abbrev pub given : Date → Listed
given d =
    let n = day_of d in
    record { day = n; on = date_of n; bands = bands_of n; end = date_of (n + (bands_of n).medium) }

abbrev pub AllGiven : List Listed → Type 0
AllGiven [] = Unit {0}
AllGiven (l ∷ ls) = (given l.on ≡ l) × AllGiven ls

abbrev pub Dates : Type 0
Dates = AllGiven listed_dates
