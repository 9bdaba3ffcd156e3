-- The words of a record, and the record that they are, as Read lays it out. Assumes nothing.
use Rattle.std.specs.Prelude.{ℕ, ◌+◌, ◌^◌, ◌≡◌, Bool, not, ◌&&◌, ◌||◌, List, [], ◌∷◌, eqb, leb, ltb, Result, Ok, Err}
use Rattle.rules.specs.declared.causes.Refusal.{Refusal}
use Rattle.rules.specs.Numbers.{cause_number}
use Rattle.rules.specs.Word.{word, kind_of, payload_of, field_of, bit_of, size_of, faulty_days, minus_zero}
use Rattle.rules.specs.Book.{Trade, Cover, WrittenCredit, DerivativeSet}
use Rattle.rules.specs.Faults.{derivative_set_fault, trade_bits_fault, trade_fault, written_fault, cover_fault}
use Rattle.rules.specs.Read.{stands, trade_at, cover_at, written_at, derivative_set_at}
use Rattle.records.specs.Cause.{record_cause}
use Rattle.records.specs.Step.{plain_amount}
use Rattle.weighing.specs.declared.read.SetWords.{SetWords}
use Rattle.weighing.specs.declared.read.TradeWords.{TradeWords}
use Rattle.weighing.specs.declared.read.WrittenWords.{WrittenWords}
use Rattle.weighing.specs.declared.read.CoverWords.{CoverWords}

-- ---- at a place

abbrev pub set_words_at : List ℕ → ℕ → SetWords
set_words_at ws at = record { head = word ws at; received = word ws (at + 1); paid = word ws (at + 2); posted = word ws (at + 3) }

abbrev pub set_words : List ℕ → SetWords
set_words ws = set_words_at ws 0

abbrev pub trade_words : List ℕ → ℕ → TradeWords
trade_words ws at = record { head = word ws at; value = word ws (at + 1); notional = word ws (at + 2); days = word ws (at + 3); reset_days = word ws (at + 4) }

abbrev pub written_words : List ℕ → ℕ → WrittenWords
written_words ws at = record {
  head = word ws at;
  value = word ws (at + 1);
  notional = word ws (at + 2);
  loss_taken = word ws (at + 3);
  days = word ws (at + 4);
  premiums = word ws (at + 5);
}

abbrev pub cover_words : List ℕ → ℕ → CoverWords
cover_words ws at = record { head = word ws at; amount = word ws (at + 1) }

-- ---- as records

abbrev pub set_of : SetWords → DerivativeSet
set_of d = derivative_set_at (d.head ∷ d.received ∷ d.paid ∷ d.posted ∷ []) []

abbrev pub trade_of : TradeWords → Trade
trade_of t = trade_at (t.head ∷ t.value ∷ t.notional ∷ t.days ∷ t.reset_days ∷ []) 0

abbrev pub written_of : WrittenWords → WrittenCredit
written_of w = written_at (w.head ∷ w.value ∷ w.notional ∷ w.loss_taken ∷ w.days ∷ w.premiums ∷ []) 0 []

abbrev pub cover_of : CoverWords → Cover
cover_of c = cover_at (c.head ∷ c.amount ∷ []) 0

-- ---- their causes

abbrev pub set_fault_of : SetWords → ℕ
set_fault_of d = derivative_set_fault d.head d.received d.paid d.posted

abbrev pub trade_fault_of : TradeWords → ℕ
trade_fault_of t = trade_fault t.head t.value t.notional t.days t.reset_days

abbrev pub written_fault_of : WrittenWords → ℕ
written_fault_of w = written_fault w.head w.value w.notional w.loss_taken w.days w.premiums

abbrev pub cover_fault_of : CoverWords → ℕ
cover_fault_of c = cover_fault c.head c.amount

abbrev pub set_cause : List ℕ → ℕ
set_cause ws = record_cause 3 ws 0 (set_fault_of (set_words ws))

abbrev pub trade_cause : List ℕ → ℕ → ℕ
trade_cause ws at = record_cause 4 ws at (trade_fault_of (trade_words ws at))

abbrev pub written_cause : List ℕ → ℕ → ℕ
written_cause ws at = record_cause 5 ws at (written_fault_of (written_words ws at))

abbrev pub cover_cause : List ℕ → ℕ → ℕ
cover_cause ws at = record_cause 1 ws at (cover_fault_of (cover_words ws at))

-- what is answered of a record at a place that has such a cause, or 0 for none
abbrev pub FaultAt : (cause at : ℕ) → Result (Unit {0}) Refusal → Type 0
FaultAt cause at (Ok u) = cause ≡ 0
FaultAt cause at (Err r) = (cause_number r.cause ≡ cause) × (r.place ≡ at)

-- ---- records without a fault, their words tested whole

-- an amount of either sign, and days
abbrev pub plain_value : ℕ → Bool
plain_value w = eqb (kind_of w) 0 && not (minus_zero w)

abbrev pub plain_days : ℕ → Bool
plain_days w = eqb (kind_of w) 0 && not (faulty_days w)

-- the days to the next reset do not go with those that remain
abbrev pub resets_odd : TradeWords → Bool
resets_odd t = ltb (size_of t.days) (size_of t.reset_days) || (not (bit_of 11 t.head) && not (eqb (size_of t.reset_days) (size_of t.days)))

unfoldable pub good_trade : TradeWords → Bool
good_trade t =
    eqb (kind_of t.head) 5 && not (leb (2 ^ 13) (payload_of t.head))
    && not (trade_bits_fault (field_of 0 3 t.head) (field_of 3 8 t.head) (bit_of 12 t.head))
    && (plain_value t.value && plain_amount t.notional && (plain_days t.days && plain_days t.reset_days))
    && not (resets_odd t)

unfoldable pub good_written : WrittenWords → Bool
good_written w =
    eqb (kind_of w.head) 6 && not (leb (2 ^ 23) (payload_of w.head))
    && (plain_value w.value && plain_amount w.notional && (plain_amount w.loss_taken && plain_amount w.premiums) && plain_days w.days)
    && not (ltb (size_of w.notional) (size_of w.loss_taken))

unfoldable pub good_cover : CoverWords → Bool
good_cover c = eqb (kind_of c.head) 7 && not (leb (2 ^ 12) (payload_of c.head)) && (plain_amount c.amount && not (eqb (size_of c.amount) 0))

-- such a trade stands at a place
abbrev pub sound_trade : List ℕ → ℕ → Bool
sound_trade ws at = stands 5 ws at && eqb (trade_cause ws at) 0
