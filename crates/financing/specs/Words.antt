-- The words of a financing trade, the record that they are, as Read lays it out, and its causes. Assumes nothing.
use Rattle.std.specs.Prelude.{ℕ, ◌+◌, Bool, not, ◌||◌, ◌&&◌, List, [], ◌∷◌, eqb, ltb}
use Rattle.rules.specs.Word.{word, size_of, faulty_amount, faulty_days}
use Rattle.rules.specs.Book.{FinancingTrade}
use Rattle.rules.specs.Faults.{financing_trade_fault}
use Rattle.rules.specs.Read.{financing_trade_at}
use Rattle.records.specs.Cause.{record_cause}
use Rattle.financing.specs.declared.read.FinancingTradeWords.{FinancingTradeWords}

-- at a place
abbrev pub financing_trade_words : List ℕ → ℕ → FinancingTradeWords
financing_trade_words ws at = record {
  head = word ws at;
  asset = word ws (at + 1);
  securities = word ws (at + 2);
  receivable = word ws (at + 3);
  payable = word ws (at + 4);
  lent = word ws (at + 5);
  received = word ws (at + 6);
  days = word ws (at + 7);
}

-- as a record
abbrev pub financing_trade_of : FinancingTradeWords → FinancingTrade
financing_trade_of t =
    financing_trade_at (t.head ∷ t.asset ∷ t.securities ∷ t.receivable ∷ t.payable ∷ t.lent ∷ t.received ∷ t.days ∷ []) 0

-- an amount is negative, or the days are beyond 65,535
abbrev pub unreadable_in : FinancingTradeWords → Bool
unreadable_in t =
    faulty_amount t.asset || faulty_amount t.securities || faulty_amount t.receivable || faulty_amount t.payable
    || faulty_amount t.lent || faulty_amount t.received || faulty_days t.days

-- "Securities plus receivable at most gross asset; in an agent set the first four are 0."
abbrev pub odds_in : (agent : Bool) → FinancingTradeWords → Bool
odds_in agent t =
    ltb (size_of t.asset) (size_of t.securities + size_of t.receivable)
    || (agent && not (eqb (size_of t.asset + size_of t.securities + size_of t.receivable + size_of t.payable) 0))

-- the causes 7 to 10, and with them 6
abbrev pub financing_trade_fault_of : (agent : Bool) (lastDays : ℕ) → FinancingTradeWords → ℕ
financing_trade_fault_of agent lastDays t =
    financing_trade_fault agent lastDays t.head t.asset t.securities t.receivable t.payable t.lent t.received t.days

abbrev pub financing_trade_cause : (agent : Bool) (lastDays : ℕ) → List ℕ → ℕ → ℕ
financing_trade_cause agent lastDays ws at = record_cause 7 ws at (financing_trade_fault_of agent lastDays (financing_trade_words ws at))
