-- What an item adds to row 21, in thousandths of the unit, written by what stays of it; and row 21 as their sum. Assumes nothing.
use Rattle.std.specs.Prelude.{ℕ, ◌+◌, ◌-◌, ◌*◌, ◌≤◌, cond, ◌≡◌, List, pos}
use Rattle.rules.specs.declared.Bands.{Bands}
use Rattle.rules.specs.Factors.{conversion_of}
use Rattle.rules.specs.Book.{DerivativeSet, FinancingTrade, FinancingSet, Item, asset, derivatives, financing, off_balance, total, Placed}
use Rattle.rules.specs.Weigh.{replacement_of, margin_offsets, written_in, covers_in, cash_netted, excess_of}
use Rattle.rules.specs.Rows.{asset_rows, tally_in, kept_weighted, sum_over, sums_of, exposure_row}
use Rattle.rules.specs.declared.Entry.{Entry}
use Rattle.rules.specs.Read.{head_of}
use Rattle.rules.specs.Filing.{outcome_of, accepted}
use Rattle.rules.proofs.Lists.{Every}

-- replacement and the weighted add-on that is kept in, unless the client leg is exempt; collateral posted; margin paid, unless it is
-- offset; and what the covers leave of the written notional less its loss
abbrev pub derivative_exposure : Bands → DerivativeSet → ℕ
derivative_exposure bands s =
    cond s.exempt 0 (1000 * replacement_of s (tally_in bands s) + kept_weighted bands s)
    + 1000 * s.posted
    + cond (margin_offsets s) 0 (1000 * s.paid)
    + 1000 * (total written_in s.members - total covers_in s.members)

-- the covers of a set are within its written notional less loss, as in every accepted book
abbrev pub CoversWithin : Item → Type 0
CoversWithin (asset a) = Unit {0}
CoversWithin (derivatives s) = total covers_in s.members ≤ total written_in s.members
CoversWithin (financing s) = Unit {0}
CoversWithin (off_balance o) = Unit {0}

abbrev pub AllWithin : List Placed → Type 0
AllWithin = Every (λ (p : Placed). CoversWithin p.item)

-- gross assets less securities and cash netted; E*; and all value lent where the agent is exposed further
abbrev pub financing_exposure : FinancingSet → ℕ
financing_exposure s =
    1000 * (total (λ (t : FinancingTrade). t.asset - t.securities) s.trades - cash_netted s.trades)
    + 1000 * excess_of s
    + cond s.further (1000 * total (λ (t : FinancingTrade). t.lent) s.trades) 0

abbrev pub exposure_of : Bands → Item → ℕ
exposure_of bands (asset a) = 1000 * ((asset_rows a).carried - (asset_rows a).deducted)
exposure_of bands (derivatives s) = derivative_exposure bands s
exposure_of bands (financing s) = financing_exposure s
exposure_of bands (off_balance o) = conversion_of o.class o.committed * o.notional

-- row 21 is the sum of the items' exposures, and so is never negative
abbrev pub ExposureIsSum : Type 0
ExposureIsSum =
    (ws : List ℕ) (rows entries : ℕ) (items : List Placed) (left : List Entry)
    → outcome_of ws rows entries ≡ accepted items left
    → exposure_row (sums_of (head_of ws).bands items) ≡ pos (sum_over (exposure_of (head_of ws).bands) items)
