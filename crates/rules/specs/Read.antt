-- Document 01, "Records": how a book is read out of its words, up to the first record that is faulty by itself (5 to 10, 14 and 17).
-- Assumes nothing.
use Rattle.std.specs.Prelude.{ℕ, zero, suc, ◌+◌, ◌-◌, Bool, false, not, ◌||◌, ◌&&◌, cond, List, map, eqb, leb, ltb, length, take, drop}
use Rattle.rules.specs.Word.{word, kind_of, payload_of, field_of, bit_of, size_of, gain_of, loss_of, minus_zero, nth_in, names_in, amounts_in}
use Rattle.rules.specs.Calendar.{last_date, bands_of}
use Rattle.rules.specs.Book.{Head, Protection, Asset, Trade, Basket, Cover, WrittenCredit, Member, trade, written, basket, DerivativeSet, FinancingTrade, FinancingSet, OffBalance, Item, asset, derivatives, financing, off_balance, Placed}
use Rattle.rules.specs.Run.{Turn, over, bad, some, Run, ended, run_from, sound}
use Rattle.rules.specs.Faults.{cause, protection_fault, asset_fault, derivative_set_fault, trade_fault, basket_fault, written_fault, cover_fault, financing_set_fault, financing_trade_fault, off_balance_fault}

-- ---- the head: its word, Tier 1 and the reporting date (request A.2)

-- where the records behind the head begin
abbrev pub first_record : ℕ
first_record = 3

-- "A book under three words", "no good head word or Tier 1 word"; b is 0 to 4,096
unfoldable pub head_faulty : List ℕ → Bool
head_faulty ws =
    ltb (length ws) first_record
    || not (eqb (kind_of (word ws 0)) 1) || ltb 4096 (payload_of (word ws 0))
    || not (eqb (kind_of (word ws 1)) 0) || minus_zero (word ws 1)

-- "A date out of range, or not a good amount": minus zero and the negative amounts have larger payloads too
unfoldable pub date_faulty : List ℕ → Bool
date_faulty ws = not (eqb (kind_of (word ws 2)) 0) || ltb last_date (payload_of (word ws 2))

-- a word that is no good date reads as 0, like one that is missing
unfoldable pub reporting_date : List ℕ → ℕ
reporting_date ws = cond (date_faulty ws) 0 (size_of (word ws 2))

unfoldable pub head_of : List ℕ → Head
head_of ws = record {
  protections = payload_of (word ws 0);
  gain = gain_of (word ws 1);
  loss = loss_of (word ws 1);
  bands = bands_of (reporting_date ws);
}

-- ---- one record

-- of the n words after a place one is missing or no amount
unfoldable pub lacks : ℕ → List ℕ → ℕ → Bool
lacks zero ws at = false
lacks (suc n) ws at = leb (length ws) (at + suc n) || not (eqb (kind_of (word ws (at + suc n))) 0) || lacks n ws at

-- "too few words, or an amount not of kind 0", then the record's own causes, then what begins behind it
unfoldable pub record_then : {A : Type 0} → List ℕ → (at fault : ℕ) → (ℕ → Turn A) → Turn A
record_then ws at fault next =
    cond (lacks (amounts_in (word ws at)) ws at) (bad 6 at) (sound fault at (next (at + suc (amounts_in (word ws at)))))

-- a record of some kind stands at a place
abbrev pub stands : ℕ → List ℕ → ℕ → Bool
stands kind ws at = ltb at (length ws) && eqb (kind_of (word ws at)) kind

-- ---- protections: "exactly b of them after the head". Any other kind is 5, and "words running out ... give 14 and the length".

unfoldable pub protection_at : List ℕ → ℕ → Protection
protection_at ws at = record {
  entity = field_of 0 16 (word ws at);
  rank = field_of 16 4 (word ws at);
  notional = size_of (word ws (at + 1));
  gain = size_of (word ws (at + 2));
  days = size_of (word ws (at + 3));
}

unfoldable pub protection_turn : List ℕ → ℕ → Turn Protection
protection_turn ws at =
    cond (leb (length ws) at) (bad 14 (length ws))
    (cond (not (eqb (kind_of (word ws at)) 3)) (bad 5 at)
    (record_then ws at (protection_fault (word ws at) (word ws (at + 1)) (word ws (at + 2)) (word ws (at + 3)))
    (some (protection_at ws at) 0)))

-- ---- items. Each is read out of the part of the book that begins at its head, so places count from there.

-- kind 2
unfoldable pub asset_at : List ℕ → Asset
asset_at ws = record {
  fiduciary = bit_of 0 (word ws 0);
  carrying = size_of (word ws 1);
  provision = size_of (word ws 2);
  deducted = size_of (word ws 3);
}

unfoldable pub asset_turn : List ℕ → Turn Item
asset_turn ws = record_then ws 0 (asset_fault (word ws 0) (word ws 1) (word ws 2) (word ws 3)) (some (asset (asset_at ws)) 0)

-- kind 7, "after a 6 or its covers"
unfoldable pub cover_at : List ℕ → ℕ → Cover
cover_at ws at = record { at = at; protection = field_of 0 12 (word ws at); amount = size_of (word ws (at + 1)) }

unfoldable pub cover_turn : List ℕ → ℕ → Turn Cover
cover_turn ws at = cond (stands 7 ws at) (record_then ws at (cover_fault (word ws at) (word ws (at + 1))) (some (cover_at ws at) 0)) over

-- kind 6
unfoldable pub written_at : List ℕ → ℕ → List Cover → WrittenCredit
written_at ws at covers = record {
  entity = field_of 0 16 (word ws at);
  rank = field_of 16 4 (word ws at);
  qualifying = bit_of 20 (word ws at);
  total_return = bit_of 21 (word ws at);
  close_out = bit_of 22 (word ws at);
  gain = gain_of (word ws (at + 1));
  loss = loss_of (word ws (at + 1));
  notional = size_of (word ws (at + 2));
  loss_taken = size_of (word ws (at + 3));
  days = size_of (word ws (at + 4));
  premiums = size_of (word ws (at + 5));
  covers = covers;
}

abbrev pub with_covers : List ℕ → ℕ → Run Cover → Turn Member
with_covers ws at r = some (written (written_at ws at r.records)) r.number r.place

unfoldable pub written_turn : List ℕ → ℕ → Turn Member
written_turn ws at =
    record_then ws at (written_fault (word ws at) (word ws (at + 1)) (word ws (at + 2)) (word ws (at + 3)) (word ws (at + 4)) (word ws (at + 5)))
    (λ next. with_covers ws at (run_from (cover_turn ws) (suc (length ws)) next))

-- kind 5
unfoldable pub trade_at : List ℕ → ℕ → Trade
trade_at ws at = record {
  class = field_of 0 3 (word ws at);
  payments = field_of 3 8 (word ws at);
  resets = bit_of 11 (word ws at);
  qualifying = bit_of 12 (word ws at);
  gain = gain_of (word ws (at + 1));
  loss = loss_of (word ws (at + 1));
  notional = size_of (word ws (at + 2));
  days = size_of (word ws (at + 3));
  reset_days = size_of (word ws (at + 4));
}

unfoldable pub trade_turn : List ℕ → ℕ → Turn Member
trade_turn ws at =
    record_then ws at (trade_fault (word ws at) (word ws (at + 1)) (word ws (at + 2)) (word ws (at + 3)) (word ws (at + 4)))
    (some (trade (trade_at ws at)) 0)

-- kind 11: "value (may be negative), effective notional, and m amounts: each a quality grade" (request A.3). The words of the grades:
abbrev pub grades_at : List ℕ → ℕ → List ℕ
grades_at ws at = take (names_in (word ws at)) (drop (at + 3) ws)

unfoldable pub basket_at : List ℕ → ℕ → Basket
basket_at ws at = record {
  nth = nth_in (word ws at);
  gain = gain_of (word ws (at + 1));
  loss = loss_of (word ws (at + 1));
  notional = size_of (word ws (at + 2));
  grades = map size_of (grades_at ws at);
}

unfoldable pub basket_turn : List ℕ → ℕ → Turn Member
basket_turn ws at =
    record_then ws at (basket_fault (word ws at) (word ws (at + 1)) (word ws (at + 2)) (grades_at ws at)) (some (basket (basket_at ws at)) 0)

-- kind 4 with its trades, written credits and baskets
unfoldable pub member_turn : List ℕ → ℕ → Turn Member
member_turn ws at = cond (stands 5 ws at) (trade_turn ws at) (cond (stands 6 ws at) (written_turn ws at) (cond (stands 11 ws at) (basket_turn ws at) over))

unfoldable pub derivative_set_at : List ℕ → List Member → DerivativeSet
derivative_set_at ws members = record {
  netting = bit_of 0 (word ws 0);
  not_segregated = bit_of 1 (word ws 0);
  daily = bit_of 2 (word ws 0);
  same_currency = bit_of 3 (word ws 0);
  full_amount = bit_of 4 (word ws 0);
  exempt = bit_of 5 (word ws 0);
  received = size_of (word ws 1);
  paid = size_of (word ws 2);
  posted = size_of (word ws 3);
  members = members;
}

abbrev pub with_members : List ℕ → Run Member → Turn Item
with_members ws r = some (derivatives (derivative_set_at ws r.records)) r.number r.place

unfoldable pub derivative_set_turn : List ℕ → Turn Item
derivative_set_turn ws =
    record_then ws 0 (derivative_set_fault (word ws 0) (word ws 1) (word ws 2) (word ws 3))
    (λ next. with_members ws (run_from (member_turn ws) (suc (length ws)) next))

-- kind 9
unfoldable pub financing_trade_at : List ℕ → ℕ → FinancingTrade
financing_trade_at ws at = record {
  net_settled = bit_of 0 (word ws at);
  asset = size_of (word ws (at + 1));
  securities = size_of (word ws (at + 2));
  receivable = size_of (word ws (at + 3));
  payable = size_of (word ws (at + 4));
  lent = size_of (word ws (at + 5));
  received = size_of (word ws (at + 6));
  days = size_of (word ws (at + 7));
}

-- the settlement days of the trade before, whose last amount stands right before; 0 behind the set's head, which is no amount
abbrev pub last_days_at : List ℕ → ℕ → ℕ
last_days_at ws at = cond (eqb (kind_of (word ws (at - 1))) 0) (size_of (word ws (at - 1))) 0

unfoldable pub financing_trade_turn : List ℕ → ℕ → Turn FinancingTrade
financing_trade_turn ws at =
    record_then ws at
    (financing_trade_fault (bit_of 1 (word ws 0)) (last_days_at ws at) (word ws at) (word ws (at + 1)) (word ws (at + 2)) (word ws (at + 3)) (word ws (at + 4)) (word ws (at + 5)) (word ws (at + 6)) (word ws (at + 7)))
    (some (financing_trade_at ws at) 0)

-- kind 8 with its trades
unfoldable pub financing_member_turn : List ℕ → ℕ → Turn FinancingTrade
financing_member_turn ws at = cond (stands 9 ws at) (financing_trade_turn ws at) over

unfoldable pub financing_set_at : List ℕ → List FinancingTrade → FinancingSet
financing_set_at ws trades = record {
  netting = bit_of 0 (word ws 0);
  agent = bit_of 1 (word ws 0);
  further = bit_of 2 (word ws 0);
  trades = trades;
}

abbrev pub with_trades : List ℕ → Run FinancingTrade → Turn Item
with_trades ws r = some (financing (financing_set_at ws r.records)) r.number r.place

unfoldable pub financing_set_turn : List ℕ → Turn Item
financing_set_turn ws =
    record_then ws 0 (financing_set_fault (word ws 0))
    (λ next. with_trades ws (run_from (financing_member_turn ws) (suc (length ws)) next))

-- kind 10
unfoldable pub off_balance_at : List ℕ → OffBalance
off_balance_at ws = record { class = field_of 0 4 (word ws 0); committed = field_of 4 4 (word ws 0); notional = size_of (word ws 1) }

unfoldable pub off_balance_turn : List ℕ → Turn Item
off_balance_turn ws = record_then ws 0 (off_balance_fault (word ws 0) (word ws 1)) (some (off_balance (off_balance_at ws)) 0)

-- "Kinds 2, 4, 8, 10 come in any order after the protections"; any other is 5
unfoldable pub item_of : List ℕ → Turn Item
item_of ws =
    cond (eqb (kind_of (word ws 0)) 2) (asset_turn ws)
    (cond (eqb (kind_of (word ws 0)) 4) (derivative_set_turn ws)
    (cond (eqb (kind_of (word ws 0)) 8) (financing_set_turn ws)
    (cond (eqb (kind_of (word ws 0)) 10) (off_balance_turn ws)
    (bad 5 0))))

-- ---- the book

-- places from the book's start on
abbrev pub placed : ℕ → Turn Item → Turn Placed
placed at over = over
placed at (bad number place) = bad number (at + place)
placed at (some i number place) = some (record { begin = at; end = at + place; item = i }) number (at + place)

-- kind 15: "payload is the count of words before it; nothing follows"
unfoldable pub end_fault : List ℕ → ℕ → ℕ
end_fault ws at = cause 14 (not (eqb (payload_of (word ws at)) at) || not (eqb (length ws) (suc at))) 0

unfoldable pub item_turn : List ℕ → ℕ → Turn Placed
item_turn ws at =
    cond (leb (length ws) at) (bad 14 (length ws))
    (cond (eqb (kind_of (word ws at)) 15) (sound (end_fault ws at) at over)
    (placed at (item_of (drop at ws))))

unfoldable pub protections_of : List ℕ → Run Protection
protections_of ws = run_from (protection_turn ws) (head_of ws).protections first_record

-- the items behind the protections; none where a protection is faulty
abbrev pub items_after : List ℕ → Run Protection → Run Placed
items_after ws r = cond (eqb r.number 0) (run_from (item_turn ws) (suc (length ws)) r.place) (ended r.number r.place)

unfoldable pub items_of : List ℕ → Run Placed
items_of ws = items_after ws (protections_of ws)
