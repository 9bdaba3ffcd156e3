-- Document 01, "Rows": what each item puts into each row, in thousandths of the unit, and the twenty-two rows. Rows 2, 7, 8, 10, 13
-- and 18 are negative in the template; here stand their sizes. Assumes nothing.
use Rattle.std.specs.Prelude.{ℕ, ◌+◌, ◌-◌, ◌*◌, cond, List, [], ◌∷◌, ℤ, pos, neg_ℤ, ◌+ℤ◌}
use Rattle.rules.specs.declared.Bands.{Bands}
use Rattle.rules.specs.declared.Sums.{Sums}
use Rattle.rules.specs.Factors.{conversion_of}
use Rattle.rules.specs.Ratio.{tier1_of, ratio_of}
use Rattle.rules.specs.Book.{Asset, DerivativeSet, FinancingTrade, FinancingSet, OffBalance, Item, asset, derivatives, financing, off_balance, Placed, total}
use Rattle.rules.specs.Weigh.{Tally, tally_of, replacement_of, weighted_in, margin_offsets, written_in, covers_in, cash_netted, excess_of}

-- ---- assets (paragraphs 15 to 17). "The deduction goes first": a fiduciary one puts d into row 1, whatever its provision, row 2 takes d
-- out again as of any asset, and the mark removes the remainder (request A.9).

pub record AssetRows : Type 0 where
  pub carried : ℕ
  pub deducted : ℕ

unfoldable pub asset_rows : Asset → AssetRows
asset_rows a = record { carried = cond a.fiduciary a.deducted (a.carrying - a.provision); deducted = a.deducted }

-- ---- what a derivative set has of the rows 5, 8 and 10, by its tally

abbrev pub tally_in : Bands → DerivativeSet → Tally
tally_in bands s = tally_of bands s.members

-- the weighted add-on of A, and that of A − U
abbrev pub gross_weighted : Bands → DerivativeSet → ℕ
gross_weighted bands s = weighted_in s (tally_in bands s) (tally_in bands s).add_on

abbrev pub kept_weighted : Bands → DerivativeSet → ℕ
kept_weighted bands s = weighted_in s (tally_in bands s) ((tally_in bands s).add_on - (tally_in bands s).uncovered)

-- ---- by the row

-- c − p of assets not fiduciary and d of fiduciary ones, plus all margin paid
abbrev pub row1 : Bands → Item → ℕ
row1 bands (asset a) = 1000 * (asset_rows a).carried
row1 bands (derivatives s) = 1000 * s.paid
row1 bands (financing s) = 0
row1 bands (off_balance o) = 0

-- d of all assets
abbrev pub row2 : Bands → Item → ℕ
row2 bands (asset a) = 1000 * (asset_rows a).deducted
row2 bands (derivatives s) = 0
row2 bands (financing s) = 0
row2 bands (off_balance o) = 0

-- a row that only derivative sets go into, only financing sets, or only off-balance items
abbrev pub of_derivatives : (DerivativeSet → ℕ) → Item → ℕ
of_derivatives f (asset a) = 0
of_derivatives f (derivatives s) = f s
of_derivatives f (financing s) = 0
of_derivatives f (off_balance o) = 0

abbrev pub of_financing : (FinancingSet → ℕ) → Item → ℕ
of_financing f (asset a) = 0
of_financing f (derivatives s) = 0
of_financing f (financing s) = f s
of_financing f (off_balance o) = 0

abbrev pub of_off_balance : (OffBalance → ℕ) → Item → ℕ
of_off_balance f (asset a) = 0
of_off_balance f (derivatives s) = 0
of_off_balance f (financing s) = 0
of_off_balance f (off_balance o) = f o

-- replacement
abbrev pub row4 : Bands → Item → ℕ
row4 bands = of_derivatives (λ (s : DerivativeSet). 1000 * replacement_of s (tally_in bands s))

-- weighted add-on of A
abbrev pub row5 : Bands → Item → ℕ
row5 bands = of_derivatives (gross_weighted bands)

-- collateral posted
abbrev pub row6 : Bands → Item → ℕ
row6 bands = of_derivatives (λ (s : DerivativeSet). 1000 * s.posted)

-- margin paid where bits 0 to 4 are 1
abbrev pub row7 : Bands → Item → ℕ
row7 bands = of_derivatives (λ (s : DerivativeSet). cond (margin_offsets s) (1000 * s.paid) 0)

-- for exempt sets, replacement + weighted add-on of A − U
abbrev pub row8 : Bands → Item → ℕ
row8 bands = of_derivatives (λ (s : DerivativeSet). cond s.exempt (1000 * replacement_of s (tally_in bands s) + kept_weighted bands s) 0)

-- notional − loss of written
abbrev pub row9 : Bands → Item → ℕ
row9 bands = of_derivatives (λ (s : DerivativeSet). 1000 * total written_in s.members)

-- covers, and the weighted add-on of A less that of A − U
abbrev pub row10 : Bands → Item → ℕ
row10 bands = of_derivatives (λ (s : DerivativeSet). 1000 * total covers_in s.members + (gross_weighted bands s - kept_weighted bands s))

-- asset − securities
abbrev pub row12 : Item → ℕ
row12 = of_financing (λ (s : FinancingSet). 1000 * total (λ (t : FinancingTrade). t.asset - t.securities) s.trades)

-- cash netted
abbrev pub row13 : Item → ℕ
row13 = of_financing (λ (s : FinancingSet). 1000 * cash_netted s.trades)

-- E* of principal sets
abbrev pub row14 : Item → ℕ
row14 = of_financing (λ (s : FinancingSet). cond s.agent 0 (1000 * excess_of s))

-- E* of agent sets, plus all value lent with bit 2
abbrev pub row15 : Item → ℕ
row15 = of_financing (λ (s : FinancingSet). cond s.agent (1000 * excess_of s) 0 + cond s.further (1000 * total (λ (t : FinancingTrade). t.lent) s.trades) 0)

-- notional
abbrev pub row17 : Item → ℕ
row17 = of_off_balance (λ (o : OffBalance). 1000 * o.notional)

-- unconverted part
abbrev pub row18 : Item → ℕ
row18 = of_off_balance (λ (o : OffBalance). (1000 - conversion_of o.class o.committed) * o.notional)

-- ---- over the book

abbrev pub sum_over : (Item → ℕ) → List Placed → ℕ
sum_over row = total (λ (p : Placed). row p.item)

unfoldable pub sums_of : Bands → List Placed → Sums
sums_of bands items = record {
  assets = sum_over (row1 bands) items;
  deducted = sum_over (row2 bands) items;
  replacement = sum_over (row4 bands) items;
  weighted = sum_over (row5 bands) items;
  posted = sum_over (row6 bands) items;
  offset = sum_over (row7 bands) items;
  exempt = sum_over (row8 bands) items;
  written = sum_over (row9 bands) items;
  covered = sum_over (row10 bands) items;
  financed = sum_over row12 items;
  netted = sum_over row13 items;
  principal = sum_over row14 items;
  agent = sum_over row15 items;
  committed = sum_over row17 items;
  unconverted = sum_over row18 items;
}

-- ---- the template

-- the size of a row that is negative
abbrev pub minus : ℕ → ℤ
minus n = neg_ℤ (pos n)

-- row 3: 1 + 2
abbrev pub on_balance : Sums → ℤ
on_balance s = pos s.assets +ℤ minus s.deducted

-- row 11: 4 to 10
abbrev pub of_derivative_rows : Sums → ℤ
of_derivative_rows s =
    pos s.replacement +ℤ pos s.weighted +ℤ pos s.posted +ℤ minus s.offset +ℤ minus s.exempt +ℤ pos s.written +ℤ minus s.covered

-- row 16: 12 to 15
abbrev pub of_financing_rows : Sums → ℤ
of_financing_rows s = pos s.financed +ℤ minus s.netted +ℤ pos s.principal +ℤ pos s.agent

-- row 19: 17 + 18
abbrev pub of_off_balance_rows : Sums → ℤ
of_off_balance_rows s = pos s.committed +ℤ minus s.unconverted

-- row 21: 3 + 11 + 16 + 19
abbrev pub exposure_row : Sums → ℤ
exposure_row s = on_balance s +ℤ of_derivative_rows s +ℤ of_financing_rows s +ℤ of_off_balance_rows s

-- rows 1 to 22, of the sums and Tier 1
unfoldable pub rows_of : Sums → (gain loss : ℕ) → List ℤ
rows_of s gain loss =
    pos s.assets
    ∷ minus s.deducted
    ∷ on_balance s
    ∷ pos s.replacement
    ∷ pos s.weighted
    ∷ pos s.posted
    ∷ minus s.offset
    ∷ minus s.exempt
    ∷ pos s.written
    ∷ minus s.covered
    ∷ of_derivative_rows s
    ∷ pos s.financed
    ∷ minus s.netted
    ∷ pos s.principal
    ∷ pos s.agent
    ∷ of_financing_rows s
    ∷ pos s.committed
    ∷ minus s.unconverted
    ∷ of_off_balance_rows s
    ∷ tier1_of gain loss
    ∷ exposure_row s
    ∷ ratio_of (tier1_of gain loss) (exposure_row s)
    ∷ []
