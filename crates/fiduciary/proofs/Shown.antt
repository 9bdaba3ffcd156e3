-- Rows 1 and 2 show the deduction of fiduciary assets, and nothing else changes. Assumes nothing.
use Prim.Native.Nat.{ℕ, ◌+◌, ◌*◌}
use mathlib.Core.Path.{◌≡◌, refl}
use mathlib.Core.Bool.{Bool, true, false}
use mathlib.Core.List.{List, [], ◌∷◌}
use native.Mathlib.Omega.{arith}
use lib.IntN.{ℤ, pos, ◌+ℤ◌, +ℤ_idr, neg_ℤ-+ℤ}
use lib.ListN.{length}
use Rattle.rules.specs.declared.Bands.{Bands}
use Rattle.rules.specs.declared.Entry.{Entry}
use Rattle.rules.specs.Book.{Head, Asset, Item, asset, derivatives, financing, off_balance, Placed}
use Rattle.rules.specs.Read.{head_of}
use Rattle.rules.specs.Rows.{asset_rows, row1, row2, minus, sum_over, sums_of, on_balance, rows_of}
use Rattle.rules.specs.Filing.{Outcome, early, refused, accepted, outcome_of, filing_of, filing}
use Rattle.rules.proofs.Differences.{of_pos, of_minus, as_difference, same, plus}
use Rattle.fiduciary.specs.Former.{former_asset_rows, former_row1, former_row2, former_sums, former_filing_of, former_filing}
use Rattle.fiduciary.specs.Claims.{fiduciary_deduction, shown_in, with_shown, DeductionShown, AgainstFormer, NoExposure}

-- ---- a fiduciary asset by itself

pub no_exposure_lem : NoExposure
unfolding asset_rows
no_exposure_lem bands a e = rw e (omega arith)

-- ---- an item puts as much more into row 1 as into row 2

AssetShown : Asset → Type 0
AssetShown a =
    ((asset_rows a).carried ≡ (former_asset_rows a).carried + fiduciary_deduction (asset a)) × ((asset_rows a).deducted ≡ (former_asset_rows a).deducted + fiduciary_deduction (asset a))

asset_shown : (a : Asset) → AssetShown a
unfolding asset_rows AssetShown
asset_shown a = go a.fiduciary refl
  where
    go : (b : Bool) → a.fiduciary ≡ b → AssetShown a
    go true e = rw e (omega arith, omega arith)
    go false e = rw e (omega arith, omega arith)

-- a row that is so much more than another, of every item
Shown : (f g : Item → ℕ) → Type 0
Shown f g = (i : Item) → f i ≡ g i + 1000 * fiduciary_deduction i

row1_shown : (bands : Bands) → Shown (row1 bands) (former_row1 bands)
unfolding Shown AssetShown
row1_shown bands (asset a) = omega (arith, (asset_shown a).0)
row1_shown bands (derivatives s) = omega arith
row1_shown bands (financing s) = refl
row1_shown bands (off_balance o) = refl

row2_shown : (bands : Bands) → Shown (row2 bands) (former_row2 bands)
unfolding Shown AssetShown
row2_shown bands (asset a) = omega (arith, (asset_shown a).1)
row2_shown bands (derivatives s) = refl
row2_shown bands (financing s) = refl
row2_shown bands (off_balance o) = refl

sum_shown : (f g : Item → ℕ) → Shown f g → (ps : List Placed) → sum_over f ps ≡ sum_over g ps + 1000 * sum_over fiduciary_deduction ps
unfolding Shown
sum_shown f g h [] = refl
sum_shown f g h (p ∷ ps) = omega (arith, h p.item, sum_shown f g h ps)

-- ---- signed

minus_more : (b n : ℕ) → minus (b + n) ≡ minus b +ℤ minus n
minus_more b n = neg_ℤ-+ℤ (pos b) (pos n)

-- as much more up as down
same_balance : (a b n : ℕ) → pos (a + n) +ℤ minus (b + n) ≡ pos a +ℤ minus b
same_balance a b n = same (as_difference (a + 0) (0 + b) (plus (of_pos (a + n)) (of_minus (b + n))) (omega arith)) (plus (of_pos a) (of_minus b))

-- ---- an accepted book

module _ (bands : Bands) (ps : List Placed) where
  pub assets_shown : (sums_of bands ps).assets ≡ (former_sums bands ps).assets + 1000 * sum_over fiduciary_deduction ps
  unfolding sums_of
  assets_shown = sum_shown (row1 bands) (former_row1 bands) (row1_shown bands) ps

  deducted_shown : (sums_of bands ps).deducted ≡ (former_sums bands ps).deducted + 1000 * sum_over fiduciary_deduction ps
  unfolding sums_of
  deducted_shown = sum_shown (row2 bands) (former_row2 bands) (row2_shown bands) ps

  -- row 3, and by it rows 21 and 22 and the verdict
  on_balance_same : on_balance (sums_of bands ps) ≡ on_balance (former_sums bands ps)
  on_balance_same = rw (assets_shown, deducted_shown) (same_balance (former_sums bands ps).assets (former_sums bands ps).deducted (1000 * sum_over fiduciary_deduction ps))

pub accepted_shown : (head : Head) (ps : List Placed) (left : List Entry) (rows : List ℤ) (register : List Entry)
    → DeductionShown (1000 * sum_over fiduciary_deduction ps) (former_filing_of head (accepted ps left) rows register) (filing_of head (accepted ps left) rows register)
unfolding rows_of
accepted_shown head ps left rows register = record {
  number = refl;
  place = refl;
  verdict = rw (on_balance_same head.bands ps);
  rows = rw (on_balance_same head.bands ps, assets_shown head.bands ps, deducted_shown head.bands ps, minus_more);
  register = refl;
}

-- ---- any book

pub none_shown : (rows : List ℤ) → rows ≡ with_shown 0 rows
none_shown [] = refl
none_shown (r1 ∷ []) = refl
none_shown (r1 ∷ r2 ∷ rest) = rw (+ℤ_idr r1, +ℤ_idr r2)

outcome_shown : (head : Head) (o : Outcome) (rows : List ℤ) (register : List Entry) → DeductionShown (shown_in o) (former_filing_of head o rows register) (filing_of head o rows register)
outcome_shown head (early number) rows register = record { number = refl; place = refl; verdict = refl; rows = none_shown rows; register = refl }
outcome_shown head (refused number place) rows register = record { number = refl; place = refl; verdict = refl; rows = none_shown rows; register = refl }
outcome_shown head (accepted items left) rows register = accepted_shown head items left rows register

pub against_former : AgainstFormer
unfolding filing former_filing
against_former ws rows register = outcome_shown (head_of ws) (outcome_of ws (length rows) (length register)) rows register
