-- Row 21 of an accepted book is the sum of its items' exposures. Assumes nothing.
use Prim.Native.Nat.{ℕ, ◌+◌, ◌-◌, ◌*◌, ◌≤◌}
use mathlib.Core.Path.{◌≡◌, refl, ap}
use mathlib.Core.Bool.{Bool, true, false, cond}
use mathlib.Core.List.{List, [], ◌∷◌}
use native.Mathlib.Omega.{arith}
use Rattle.rules.specs.declared.Bands.{Bands}
use Rattle.rules.specs.declared.Entry.{Entry}
use Rattle.rules.specs.declared.Sums.{Sums}
use Rattle.rules.specs.Factors.{conversion_of}
use Rattle.rules.specs.Weighted.{weighted_of}
use Rattle.rules.specs.Book.{Asset, DerivativeSet, FinancingTrade, FinancingSet, Item, asset, derivatives, financing, off_balance, Placed, total}
use Rattle.rules.specs.Read.{head_of}
use Rattle.rules.specs.Weigh.{Tally, net_of, margin_offsets, replacement_of, weighted_in, written_in, covers_in, cash_netted, excess_of}
use Rattle.rules.specs.Rows.{asset_rows, tally_in, gross_weighted, kept_weighted, row1, row2, row4, row5, row6, row7, row8, row9, row10, row12, row13, row14, row15, row17, row18, sum_over, sums_of, on_balance, of_derivative_rows, of_financing_rows, of_off_balance_rows, exposure_row}
use Rattle.rules.specs.Filing.{outcome_of, accepted}
use Rattle.rules.proofs.Lists.{Every, total_le}
use Rattle.rules.proofs.Lists
use Rattle.rules.proofs.Weighted.{mono_x}
use Rattle.rules.proofs.Differences.{Difference, of_pos, of_minus, as_difference, same, plus}
use Rattle.laws.specs.Exposure.{CoversWithin, AllWithin, exposure_of, ExposureIsSum}
use Rattle.laws.proofs.Accepted.{accepted_is}
use Rattle.laws.proofs.Valid.{ValidTrade, ValidItem, ValidPlaced, valid_items}
use Rattle.laws.proofs.Settling.{all_within, book_within}
use Rattle.laws.proofs.Financing.{netted_at_most}
use Rattle.laws.proofs.FactorBounds.{conversion_at_most}

-- ---- what an item adds to the rows that count up, and to those that count down

abbrev pub ups : Bands → Item → ℕ
ups bands i = row1 bands i + row4 bands i + row5 bands i + row6 bands i + row9 bands i + row12 i + row14 i + row15 i + row17 i

abbrev pub downs : Bands → Item → ℕ
downs bands i = row2 bands i + row7 bands i + row8 bands i + row10 bands i + row13 i + row18 i

-- ---- each kind of item

asset_rows_within : (a : Asset) → a.provision + a.deducted ≤ a.carrying → (asset_rows a).deducted ≤ (asset_rows a).carried
unfolding asset_rows
asset_rows_within a h = go a.fiduciary
  where
    go : (b : Bool) → a.deducted ≤ cond b a.deducted (a.carrying - a.provision)
    go true = omega arith
    go false = omega arith

-- the weighted add-on of A − U is at most that of A
pub kept_at_most : (bands : Bands) (s : DerivativeSet) → kept_weighted bands s ≤ gross_weighted bands s
unfolding weighted_in
kept_at_most bands s = go s.netting
  where
    y : Tally
    y = tally_in bands s

    go : (b : Bool) → cond b (weighted_of (y.add_on - y.uncovered) y.gains (net_of y)) (y.add_on - y.uncovered) ≤ cond b (weighted_of y.add_on y.gains (net_of y)) y.add_on
    go true = mono_x (y.add_on - y.uncovered) y.add_on y.gains (net_of y) (omega arith)
    go false = omega arith

derivative_balance : (bands : Bands) (s : DerivativeSet) → total covers_in s.members ≤ total written_in s.members
    → ups bands (derivatives s) ≡ exposure_of bands (derivatives s) + downs bands (derivatives s)
derivative_balance bands s h = go s.exempt (margin_offsets s)
  where
    k : kept_weighted bands s ≤ gross_weighted bands s
    k = kept_at_most bands s

    r : ℕ
    r = replacement_of s (tally_in bands s)

    go : (e m : Bool)
        → 1000 * s.paid + 1000 * r + gross_weighted bands s + 1000 * s.posted + 1000 * total written_in s.members + 0 + 0 + 0 + 0
        ≡ cond e 0 (1000 * r + kept_weighted bands s) + 1000 * s.posted + cond m 0 (1000 * s.paid) + 1000 * (total written_in s.members - total covers_in s.members)
        + (0 + cond m (1000 * s.paid) 0 + cond e (1000 * r + kept_weighted bands s) 0 + (1000 * total covers_in s.members + (gross_weighted bands s - kept_weighted bands s)) + 0 + 0)
    go true true = omega (arith, k)
    go true false = omega (arith, k)
    go false true = omega (arith, k)
    go false false = omega (arith, k)

-- cash netted is within the assets less the securities
cash_within : (ts : List FinancingTrade) → Every ValidTrade ts → cash_netted ts ≤ total (λ (t : FinancingTrade). t.asset - t.securities) ts
cash_within ts v =
    omega (
      arith,
      netted_at_most ts,
      total_le (λ (t : FinancingTrade). t.receivable) (λ (t : FinancingTrade). t.asset - t.securities) (Lists.every_map (λ t h. let z : t.receivable ≤ t.asset - t.securities = omega arith in z) v),
    )

financing_balance : (bands : Bands) (s : FinancingSet) → Every ValidTrade s.trades
    → ups bands (financing s) ≡ exposure_of bands (financing s) + downs bands (financing s)
financing_balance bands s v = go s.agent
  where
    c : cash_netted s.trades ≤ total (λ (t : FinancingTrade). t.asset - t.securities) s.trades
    c = cash_within s.trades v

    further : ℕ
    further = cond s.further (1000 * total (λ (t : FinancingTrade). t.lent) s.trades) 0

    go : (a : Bool)
        → 0 + 0 + 0 + 0 + 0 + 1000 * total (λ (t : FinancingTrade). t.asset - t.securities) s.trades + cond a 0 (1000 * excess_of s) + (cond a (1000 * excess_of s) 0 + further) + 0
        ≡ 1000 * (total (λ (t : FinancingTrade). t.asset - t.securities) s.trades - cash_netted s.trades) + 1000 * excess_of s + further + (0 + 0 + 0 + 0 + 1000 * cash_netted s.trades + 0)
    go true = omega (arith, c)
    go false = omega (arith, c)

item_balance : (bands : Bands) (i : Item) → ValidItem i → CoversWithin i → ups bands i ≡ exposure_of bands i + downs bands i
item_balance bands (asset a) v c = omega (arith, asset_rows_within a v)
item_balance bands (derivatives s) v c = derivative_balance bands s c
item_balance bands (financing s) v c = financing_balance bands s v
item_balance bands (off_balance o) v c = go (conversion_of o.class o.committed) (conversion_at_most o.class o.committed)
  where
    go : (f : ℕ) → f ≤ 1000 → 0 + 0 + 0 + 0 + 0 + 0 + 0 + 0 + 1000 * o.notional ≡ f * o.notional + (0 + 0 + 0 + 0 + 0 + (1000 - f) * o.notional)
    go f h =
        let e : f + (1000 - f) ≡ 1000 = omega arith in
        omega (arith, ap (λ (n : ℕ). n * o.notional) e)

-- ---- the book

book_balance : (bands : Bands) (ps : List Placed) → Every ValidPlaced ps → AllWithin ps
    → sum_over (ups bands) ps ≡ sum_over (exposure_of bands) ps + sum_over (downs bands) ps
book_balance bands [] v c = refl
book_balance bands (p ∷ ps) (Every.more v vs) (Every.more c cs) = omega (arith, item_balance bands p.item v c, book_balance bands ps vs cs)

-- what the rows of an accepted book count up is the exposures of its items and what they count down, so that row 21 is never negative
pub accepted_balance : (ws : List ℕ) (rows entries : ℕ) (items : List Placed) (left : List Entry) → outcome_of ws rows entries ≡ accepted items left
    → sum_over (ups (head_of ws).bands) items ≡ sum_over (exposure_of (head_of ws).bands) items + sum_over (downs (head_of ws).bands) items
accepted_balance ws rows entries items left e =
    let a = accepted_is ws rows entries items left e in
    book_balance (head_of ws).bands items (rw a.reading.read at (valid_items ws)) (book_within items (all_within _ _ left a.fits))

-- the sums of the rows are the rows of the sums
pub ups_are : (bands : Bands) (ps : List Placed)
    → sum_over (ups bands) ps
    ≡ sum_over (row1 bands) ps + sum_over (row4 bands) ps + sum_over (row5 bands) ps + sum_over (row6 bands) ps + sum_over (row9 bands) ps + sum_over row12 ps + sum_over row14 ps + sum_over row15 ps + sum_over row17 ps
ups_are bands [] = refl
ups_are bands (p ∷ ps) = omega (arith, ups_are bands ps)

pub downs_are : (bands : Bands) (ps : List Placed)
    → sum_over (downs bands) ps
    ≡ sum_over (row2 bands) ps + sum_over (row7 bands) ps + sum_over (row8 bands) ps + sum_over (row10 bands) ps + sum_over row13 ps + sum_over row18 ps
downs_are bands [] = refl
downs_are bands (p ∷ ps) = omega (arith, downs_are bands ps)

-- ---- row 21 as one difference

pub exposure_row_is : (s : Sums)
    → Difference (exposure_row s)
    (s.assets + s.replacement + s.weighted + s.posted + s.written + s.financed + s.principal + s.agent + s.committed)
    (s.deducted + s.offset + s.exempt + s.covered + s.netted + s.unconverted)
exposure_row_is s = as_difference _ _ (plus (plus (plus on_balance_lem derivative) financed) off_balance_lem) (omega arith)
  where
    on_balance_lem : Difference (on_balance s) (s.assets + 0) (0 + s.deducted)
    on_balance_lem = plus (of_pos s.assets) (of_minus s.deducted)

    derivative : Difference (of_derivative_rows s) (s.replacement + s.weighted + s.posted + 0 + 0 + s.written + 0) (0 + 0 + 0 + s.offset + s.exempt + 0 + s.covered)
    derivative = plus (plus (plus (plus (plus (plus (of_pos s.replacement) (of_pos s.weighted)) (of_pos s.posted)) (of_minus s.offset)) (of_minus s.exempt)) (of_pos s.written)) (of_minus s.covered)

    financed : Difference (of_financing_rows s) (s.financed + 0 + s.principal + s.agent) (0 + s.netted + 0 + 0)
    financed = plus (plus (plus (of_pos s.financed) (of_minus s.netted)) (of_pos s.principal)) (of_pos s.agent)

    off_balance_lem : Difference (of_off_balance_rows s) (s.committed + 0) (0 + s.unconverted)
    off_balance_lem = plus (of_pos s.committed) (of_minus s.unconverted)

pub exposure_is_sum : ExposureIsSum
unfolding sums_of
exposure_is_sum ws rows entries items left e =
    same
    (as_difference (sum_over (exposure_of bands) items) 0 (exposure_row_is (sums_of bands items)) (omega (arith, ups_are bands items, downs_are bands items, accepted_balance ws rows entries items left e)))
    (of_pos (sum_over (exposure_of bands) items))
  where
    bands : Bands
    bands = (head_of ws).bands
