-- The filing as it was before request A.9, by document 01 alone. Its rule for assets stands here and nowhere else; what the request left
-- as it was is cited. Assumes nothing.
use Rattle.std.specs.Prelude.{ℕ, ◌-◌, ◌*◌, cond, List, ◌++◌, ℤ, length, drop}
use Rattle.rules.specs.declared.Bands.{Bands}
use Rattle.rules.specs.declared.Entry.{Entry}
use Rattle.rules.specs.declared.Sums.{Sums}
use Rattle.rules.specs.Book.{Head, Asset, Item, asset, derivatives, financing, off_balance, Placed}
use Rattle.rules.specs.Read.{head_of}
use Rattle.rules.specs.Ratio.{tier1_of, verdict_of}
use Rattle.rules.specs.Rows.{AssetRows, row1, row2, sum_over, sums_of, exposure_row, rows_of}
use Rattle.rules.specs.Filing.{Outcome, early, refused, accepted, outcome_of, register_after, Filing, filing_of}

-- ---- assets: "1: c − p of assets not fiduciary ... 2: −d of those"

abbrev pub former_asset_rows : Asset → AssetRows
former_asset_rows a =
    cond a.fiduciary (record { carried = 0; deducted = 0 }) (record { carried = a.carrying - a.provision; deducted = a.deducted })

abbrev pub former_row1 : Bands → Item → ℕ
former_row1 bands (asset a) = 1000 * (former_asset_rows a).carried
former_row1 bands (derivatives s) = row1 bands (derivatives s)
former_row1 bands (financing s) = row1 bands (financing s)
former_row1 bands (off_balance o) = row1 bands (off_balance o)

abbrev pub former_row2 : Bands → Item → ℕ
former_row2 bands (asset a) = 1000 * (former_asset_rows a).deducted
former_row2 bands (derivatives s) = row2 bands (derivatives s)
former_row2 bands (financing s) = row2 bands (financing s)
former_row2 bands (off_balance o) = row2 bands (off_balance o)

-- ---- the sums: the first two by the former rows, the others as they are

abbrev pub former_sums : Bands → List Placed → Sums
former_sums bands items = record {
  assets = sum_over (former_row1 bands) items;
  deducted = sum_over (former_row2 bands) items;
  replacement = (sums_of bands items).replacement;
  weighted = (sums_of bands items).weighted;
  posted = (sums_of bands items).posted;
  offset = (sums_of bands items).offset;
  exempt = (sums_of bands items).exempt;
  written = (sums_of bands items).written;
  covered = (sums_of bands items).covered;
  financed = (sums_of bands items).financed;
  netted = (sums_of bands items).netted;
  principal = (sums_of bands items).principal;
  agent = (sums_of bands items).agent;
  committed = (sums_of bands items).committed;
  unconverted = (sums_of bands items).unconverted;
}

-- ---- the filing: a refusal writes no rows, so it is as it is

abbrev pub former_filing_of : Head → Outcome → List ℤ → List Entry → Filing
former_filing_of head (early number) rows register = filing_of head (early number) rows register
former_filing_of head (refused number place) rows register = filing_of head (refused number place) rows register
former_filing_of head (accepted items left) rows register = record {
  number = 0;
  place = 0;
  verdict = verdict_of (tier1_of head.gain head.loss) (exposure_row (former_sums head.bands items));
  rows = rows_of (former_sums head.bands items) head.gain head.loss ++ drop 22 rows;
  register = register_after head (accepted items left) register;
}

unfoldable pub former_filing : List ℕ → List ℤ → List Entry → Filing
former_filing ws rows register = former_filing_of (head_of ws) (outcome_of ws (length rows) (length register)) rows register
