-- A financing trade without a fault, as few tests of its words tell it. Assumes nothing.
use Rattle.std.specs.Prelude.{ℕ, ◌+◌, ◌-◌, ◌^◌, ◌≤◌, ◌<◌, Bool, not, ◌&&◌, cond, List, eqb, leb}
use Rattle.rules.specs.Word.{word, kind_of, payload_of, bit_of}
use Rattle.rules.specs.Book.{FinancingTrade}
use Rattle.rules.specs.Read.{stands}
use Rattle.records.specs.Step.{plain_amount}
use Rattle.financing.specs.declared.read.FinancingTradeWords.{FinancingTradeWords}
use Rattle.financing.specs.Words.{financing_trade_cause}

-- the most that one of the first four amounts may be: "in an agent set the first four are 0"
abbrev pub own_most : (agent : Bool) → ℕ
own_most agent = cond agent 0 (2 ^ 27 - 1)

-- the first four amounts: securities and receivable are within the asset, and so with it within what the set allows
abbrev pub own_within : (most : ℕ) → FinancingTradeWords → Bool
own_within most t = leb t.asset most && leb t.payable most && leb (t.securities + t.receivable) t.asset

-- days up to 65,535 that do not fall
abbrev pub good_days : (lastDays days : ℕ) → Bool
good_days lastDays days = leb days 65535 && leb lastDays days

-- none of the causes 6 to 10
unfoldable pub good_trade : (most lastDays : ℕ) → FinancingTradeWords → Bool
good_trade most lastDays t =
    eqb (kind_of t.head) 9 && not (leb 2 (payload_of t.head))
    && good_days lastDays t.days
    && own_within most t
    && (plain_amount t.lent && plain_amount t.received)

-- a trade stands at a place of its set and has none of them
abbrev pub sound_trade : (lastDays : ℕ) → List ℕ → ℕ → Bool
sound_trade lastDays ws at = stands 9 ws at && eqb (financing_trade_cause (bit_of 1 (word ws 0)) lastDays ws at) 0

-- ---- what such a trade's words are

-- amounts without a sign, each its own size; securities and receivable within the asset
pub record PlainTrade (t : FinancingTradeWords) : Type 0 where
  pub within : t.securities + t.receivable ≤ t.asset
  pub asset : t.asset < 2 ^ 27
  pub payable : t.payable < 2 ^ 27
  pub lent : t.lent < 2 ^ 27
  pub received : t.received < 2 ^ 27
  pub days : t.days < 2 ^ 27

-- the trade that they are
abbrev pub plain_trade_of : FinancingTradeWords → FinancingTrade
plain_trade_of t = record {
  net_settled = bit_of 0 t.head;
  asset = t.asset;
  securities = t.securities;
  receivable = t.receivable;
  payable = t.payable;
  lent = t.lent;
  received = t.received;
  days = t.days;
}
