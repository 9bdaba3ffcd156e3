-- What is claimed of every accepted book, whatever rows and register are lent. Assumes nothing.
use Rattle.std.specs.Prelude.{ℕ, ◌*◌, ◌^◌, ◌<◌, ◌≡◌, List, pos, get_or}
use Rattle.std.specs.Int.Signed.{mag}
use Rattle.rules.specs.declared.Entry.{Entry}
use Rattle.rules.specs.Book.{Placed}
use Rattle.rules.specs.Read.{head_of}
use Rattle.rules.specs.Rows.{sum_over, sums_of, rows_of}
use Rattle.rules.specs.Filing.{outcome_of, accepted}
use Rattle.laws.specs.Exposure.{exposure_of}

-- every row, and three times row 21, fits a signed number of 64 bits: `mag` is n of n and of -(n + 1)
pub record RowsFit (ws : List ℕ) (items : List Placed) : Type 0 where
  pub each : (k : ℕ) → mag (get_or (rows_of (sums_of (head_of ws).bands items) (head_of ws).gain (head_of ws).loss) k (pos 0)) < 2 ^ 63
  pub threefold : 3 * sum_over (exposure_of (head_of ws).bands) items < 2 ^ 63

abbrev pub AllRowsFit : Type 0
AllRowsFit =
    (ws : List ℕ) (rows entries : ℕ) (items : List Placed) (left : List Entry)
    → outcome_of ws rows entries ≡ accepted items left
    → RowsFit ws items
