-- What an item puts into all the rows together, and its exposure, are each at most its weight. Assumes nothing.
use Prim.Native.Nat.{ℕ, ◌+◌, ◌-◌, ◌*◌, ◌≤◌}
use mathlib.Core.Path.{◌≡◌, refl}
use mathlib.Core.Bool.{Bool, true, false, cond}
use mathlib.Core.List.{List, [], ◌∷◌}
use native.Mathlib.Omega.{arith}
use native.Mathlib.Nat.{mul-le-mul_right}
use Rattle.rules.specs.declared.Bands.{Bands}
use Rattle.rules.specs.Factors.{conversion_of}
use Rattle.rules.specs.Book.{Asset, DerivativeSet, FinancingTrade, FinancingSet, Item, asset, derivatives, financing, off_balance, Placed, total}
use Rattle.rules.specs.Weighted.{weighted_of}
use Rattle.rules.specs.Weigh.{Tally, tally_of, net_of, margin_offsets, replacement_of, weighted_in, excess_of}
use Rattle.rules.specs.Rows.{asset_rows, tally_in, kept_weighted, row1, row2, row4, row5, row6, row7, row8, row9, row10, row12, row13, row14, row15, row17, row18, sum_over}
use Rattle.rules.proofs.Lists.{total_le_all}
use Rattle.rules.proofs.Weighted.{at_most}
use Rattle.laws.specs.Exposure.{exposure_of}
use Rattle.laws.proofs.Financing.{netted_at_most}
use Rattle.laws.proofs.FactorBounds.{conversion_at_most}
use Rattle.laws.proofs.MemberBounds.{members_total, financing_total}
use Rattle.laws.proofs.ItemBounds.{item_weight}

-- ---- a part by a mark: with it, without it, and both

pub marked : (b : Bool) (x : ℕ) → cond b x 0 ≤ x
marked true x = omega arith
marked false x = omega arith

unmarked : (b : Bool) (x : ℕ) → cond b 0 x ≤ x
unmarked true x = omega arith
unmarked false x = omega arith

either : (b : Bool) (x : ℕ) → cond b 0 x + cond b x 0 ≤ x
either true x = omega arith
either false x = omega arith

-- ---- the pieces of an item

-- d may pass c here, since no validity is asked for
carried_at_most : (a : Asset) → (asset_rows a).carried ≤ a.carrying + a.deducted
unfolding asset_rows
carried_at_most a = go a.fiduciary
  where
    go : (b : Bool) → cond b a.deducted (a.carrying - a.provision) ≤ a.carrying + a.deducted
    go true = omega arith
    go false = omega arith

deducted_at_most : (a : Asset) → (asset_rows a).deducted ≤ a.deducted
unfolding asset_rows
deducted_at_most a = omega arith

pub replacement_at_most : (s : DerivativeSet) (t : Tally) → replacement_of s t ≤ t.gains
unfolding replacement_of
replacement_at_most s t = go s.netting (margin_offsets s)
  where
    go : (a b : Bool) → cond a (cond b (net_of t - s.received) (net_of t)) t.gains ≤ t.gains
    go true true = omega arith
    go true false = omega arith
    go false b = omega arith

pub weighted_at_most : (s : DerivativeSet) (t : Tally) (x : ℕ) → weighted_in s t x ≤ x
unfolding weighted_in
weighted_at_most s t x = go s.netting
  where
    go : (b : Bool) → cond b (weighted_of x t.gains (net_of t)) x ≤ x
    go true = at_most x t.gains (net_of t) (omega arith)
    go false = omega arith

pub excess_at_most : (s : FinancingSet) → excess_of s ≤ total (λ (t : FinancingTrade). t.lent) s.trades
unfolding excess_of
excess_at_most s = go s.netting
  where
    go : (b : Bool)
        → cond b (total (λ (t : FinancingTrade). t.lent) s.trades - total (λ (t : FinancingTrade). t.received) s.trades) (total (λ (t : FinancingTrade). t.lent - t.received) s.trades)
        ≤ total (λ (t : FinancingTrade). t.lent) s.trades
    go true = omega arith
    go false = total_le_all (λ (t : FinancingTrade). t.lent - t.received) (λ (t : FinancingTrade). t.lent) (λ t. omega arith) s.trades

financed_at_most : (ts : List FinancingTrade) → total (λ (t : FinancingTrade). t.asset - t.securities) ts ≤ total (λ (t : FinancingTrade). t.asset) ts
financed_at_most ts = total_le_all (λ (t : FinancingTrade). t.asset - t.securities) (λ (t : FinancingTrade). t.asset) (λ t. omega arith) ts

-- ---- all rows, sizes added

abbrev pub all_rows : Bands → Item → ℕ
all_rows bands i =
    row1 bands i + row2 bands i + row4 bands i + row5 bands i + row6 bands i + row7 bands i + row8 bands i + row9 bands i + row10 bands i
    + row12 i + row13 i + row14 i + row15 i + row17 i + row18 i

pub rows_at_most : (bands : Bands) (i : Item) → all_rows bands i ≤ item_weight bands i
unfolding tally_of
rows_at_most bands (asset a) = omega (arith, carried_at_most a, deducted_at_most a)
rows_at_most bands (derivatives s) =
    omega (
      arith,
      members_total bands s.members,
      replacement_at_most s (tally_in bands s),
      weighted_at_most s (tally_in bands s) (tally_in bands s).add_on,
      weighted_at_most s (tally_in bands s) ((tally_in bands s).add_on - (tally_in bands s).uncovered),
      marked (margin_offsets s) (1000 * s.paid),
      marked s.exempt (1000 * replacement_of s (tally_in bands s) + kept_weighted bands s),
    )
rows_at_most bands (financing s) =
    omega (
      arith,
      financing_total s.trades,
      financed_at_most s.trades,
      netted_at_most s.trades,
      excess_at_most s,
      either s.agent (1000 * excess_of s),
      marked s.further (1000 * total (λ (t : FinancingTrade). t.lent) s.trades),
    )
rows_at_most bands (off_balance o) =
    let h : 1000 - conversion_of o.class o.committed ≤ 1000 = omega arith in
    omega (arith, mul-le-mul_right o.notional h)

pub exposure_at_most : (bands : Bands) (i : Item) → exposure_of bands i ≤ item_weight bands i
unfolding tally_of
exposure_at_most bands (asset a) = omega (arith, carried_at_most a)
exposure_at_most bands (derivatives s) =
    omega (
      arith,
      members_total bands s.members,
      replacement_at_most s (tally_in bands s),
      weighted_at_most s (tally_in bands s) ((tally_in bands s).add_on - (tally_in bands s).uncovered),
      unmarked (margin_offsets s) (1000 * s.paid),
      unmarked s.exempt (1000 * replacement_of s (tally_in bands s) + kept_weighted bands s),
    )
exposure_at_most bands (financing s) =
    omega (arith, financing_total s.trades, financed_at_most s.trades, excess_at_most s, marked s.further (1000 * total (λ (t : FinancingTrade). t.lent) s.trades))
exposure_at_most bands (off_balance o) = omega (arith, mul-le-mul_right o.notional (conversion_at_most o.class o.committed))

-- ---- over the book

pub sums_total : (bands : Bands) (items : List Placed)
    → sum_over (all_rows bands) items
    ≡ sum_over (row1 bands) items + sum_over (row2 bands) items + sum_over (row4 bands) items + sum_over (row5 bands) items + sum_over (row6 bands) items
    + sum_over (row7 bands) items + sum_over (row8 bands) items + sum_over (row9 bands) items + sum_over (row10 bands) items
    + sum_over row12 items + sum_over row13 items + sum_over row14 items + sum_over row15 items + sum_over row17 items + sum_over row18 items
sums_total bands [] = refl
sums_total bands (p ∷ ps) = omega (arith, sums_total bands ps)
