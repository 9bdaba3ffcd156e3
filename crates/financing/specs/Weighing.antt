-- The weighing of a financing set: a tally that each trade is added to, and what the set brings by its tally.
-- Assumes nothing.
use Rattle.std.specs.Prelude.{ℕ, zero, suc, ◌+◌, ◌-◌, ◌*◌, ◌^◌, ◌≤◌, min, Bool, cond, List, [], ◌∷◌, eqb, length, Result, Ok, Err}
use Rattle.rules.specs.declared.causes.Refusal.{Refusal}
use Rattle.rules.specs.declared.Sums.{Sums}
use Rattle.rules.specs.Numbers.{cause_number}
use Rattle.rules.specs.Word.{bit_of}
use Rattle.rules.specs.Book.{FinancingTrade}
use Rattle.rules.specs.Run.{Run, run_from}
use Rattle.rules.specs.Read.{financing_member_turn}
use Rattle.financing.specs.declared.tally.FinancingTally.{FinancingTally}

-- ---- the tally

abbrev pub no_tally : FinancingTally
no_tally = record { assets = 0; lent = 0; received = 0; excess = 0; closed = 0; day = 0; receivable = 0; payable = 0 }

-- cash of a day: on a new day the one before is closed
unfoldable pub settled : FinancingTally → FinancingTrade → FinancingTally
settled t x = record {
  assets = t.assets;
  lent = t.lent;
  received = t.received;
  excess = t.excess;
  closed = t.closed + cond (eqb x.days t.day) 0 (min t.receivable t.payable);
  day = x.days;
  receivable = cond (eqb x.days t.day) t.receivable 0 + cond x.net_settled x.receivable 0;
  payable = cond (eqb x.days t.day) t.payable 0 + cond x.net_settled x.payable 0;
}

-- with one trade more
unfoldable pub tallied : FinancingTally → FinancingTrade → FinancingTally
tallied t x =
    settled
    (record {
      assets = t.assets + (x.asset - x.securities);
      lent = t.lent + x.lent;
      received = t.received + x.received;
      excess = t.excess + (x.lent - x.received);
      closed = t.closed;
      day = t.day;
      receivable = t.receivable;
      payable = t.payable;
    })
    x

unfoldable pub tally_from : FinancingTally → List FinancingTrade → FinancingTally
tally_from t [] = t
tally_from t (x ∷ xs) = tally_from (tallied t x) xs

-- the cash netted of all days, the last one too
abbrev pub netted_in : FinancingTally → ℕ
netted_in t = t.closed + min t.receivable t.payable

-- "E* is lent minus received, not below 0, over the set if netting is marked, else summed trade by trade"
abbrev pub excess_in : (netting : Bool) → FinancingTally → ℕ
excess_in netting t = cond netting (t.lent - t.received) t.excess

-- ---- the trades of a set

-- their tally and the place behind them, or the number and the place of the first fault
pub data Weighed : Type 0 where
  whole : FinancingTally → (place : ℕ) → Weighed
  refused : (number place : ℕ) → Weighed

abbrev pub weighed_to : FinancingTally → (number place : ℕ) → Weighed
weighed_to t zero place = whole t place
weighed_to t (suc number) place = refused (suc number) place

-- as the code answers it
abbrev pub weighed_in : Result (FinancingTally × ℕ) Refusal → Weighed
weighed_in (Ok x) = whole x.0 x.1
weighed_in (Err r) = refused (cause_number r.cause) r.place

abbrev pub weighed_of : FinancingTally → Run FinancingTrade → Weighed
weighed_of t r = weighed_to (tally_from t r.records) r.number r.place

-- behind the head of the set
abbrev pub trades_of : List ℕ → Run FinancingTrade
trades_of ws = run_from (financing_member_turn ws) (suc (length ws)) 1

-- ---- what a set brings, by its tally and its head word

unfoldable pub set_sums : FinancingTally → (w : ℕ) → Sums
set_sums t w = record {
  assets = 0;
  deducted = 0;
  replacement = 0;
  weighted = 0;
  posted = 0;
  offset = 0;
  exempt = 0;
  written = 0;
  covered = 0;
  financed = 1000 * t.assets;
  netted = 1000 * netted_in t;
  principal = cond (bit_of 1 w) 0 (1000 * excess_in (bit_of 0 w) t);
  agent = cond (bit_of 1 w) (1000 * excess_in (bit_of 0 w) t) 0 + cond (bit_of 2 w) (1000 * t.lent) 0;
  committed = 0;
  unconverted = 0;
}

-- ---- what fits 64 bits

-- all amounts together
abbrev pub tally_sum : FinancingTally → ℕ
tally_sum t = t.assets + t.lent + t.received + t.excess + (t.closed + t.receivable) + t.payable

-- a tally that leaves room for one trade more
abbrev pub TallyRoomy : FinancingTally → Type 0
TallyRoomy t = tally_sum t ≤ 2 ^ 62

-- a tally whose thousandths fit
pub record TallyFits (t : FinancingTally) : Type 0 where
  pub assets : 1000 * t.assets ≤ 2 ^ 61
  pub netted : 1000 * netted_in t ≤ 2 ^ 61
  pub lent : 2000 * t.lent ≤ 2 ^ 61
  pub excess : t.excess ≤ t.lent
