-- The template section by section: what each puts into the rows, of which row k stands at place k - 1; and sums that fit the rows.
-- Assumes nothing.
use Rattle.std.specs.Prelude.{ℕ, ◌+◌, ◌^◌, ◌≤◌, List, ℤ, pos, set}
use Rattle.rules.specs.declared.Sums.{Sums}
use Rattle.rules.specs.Ratio.{tier1_of, ratio_of}
use Rattle.rules.specs.Rows.{minus, on_balance, of_derivative_rows, of_financing_rows, of_off_balance_rows, exposure_row}

-- ---- sums that fit

-- the sums that count up into row 21, and those that count down
abbrev pub counted_up : Sums → ℕ
counted_up s = s.assets + s.replacement + s.weighted + s.posted + s.written + s.financed + s.principal + s.agent + s.committed

abbrev pub counted_down : Sums → ℕ
counted_down s = s.deducted + s.offset + s.exempt + s.covered + s.netted + s.unconverted

-- row 21 is never negative, since no book's sums count down further than up
pub record SumsFit (s : Sums) : Type 0 where
  pub up : counted_up s ≤ 2 ^ 62
  pub down : counted_down s ≤ 2 ^ 62
  pub within : counted_down s ≤ counted_up s

-- ---- sections

-- rows 1 to 3
abbrev pub with_on_balance : List ℤ → Sums → List ℤ
with_on_balance rows s = set (set (set rows 0 (pos s.assets)) 1 (minus s.deducted)) 2 (on_balance s)

-- rows 4 to 11
abbrev pub with_derivatives : List ℤ → Sums → List ℤ
with_derivatives rows s =
    set (set (set (set (set (set (set (set rows
    3 (pos s.replacement))
    4 (pos s.weighted))
    5 (pos s.posted))
    6 (minus s.offset))
    7 (minus s.exempt))
    8 (pos s.written))
    9 (minus s.covered))
    10 (of_derivative_rows s)

-- rows 12 to 16
abbrev pub with_financing : List ℤ → Sums → List ℤ
with_financing rows s =
    set (set (set (set (set rows
    11 (pos s.financed))
    12 (minus s.netted))
    13 (pos s.principal))
    14 (pos s.agent))
    15 (of_financing_rows s)

-- rows 17 to 19
abbrev pub with_off_balance : List ℤ → Sums → List ℤ
with_off_balance rows s = set (set (set rows 16 (pos s.committed)) 17 (minus s.unconverted)) 18 (of_off_balance_rows s)

-- rows 20 to 22: Tier 1, the exposure and the ratio
abbrev pub with_ratio : List ℤ → Sums → (gain loss : ℕ) → List ℤ
with_ratio rows s gain loss =
    set (set (set rows 19 (tier1_of gain loss)) 20 (exposure_row s)) 21 (ratio_of (tier1_of gain loss) (exposure_row s))
