-- Document 01, "When a book is turned away": the causes 7 to 10, and 17 of request A.3, of each kind of record, in the table's order, by its words.
-- A record that none of them fits has the number 0. Assumes nothing.
use Rattle.std.specs.Prelude.{ℕ, ◌+◌, ◌^◌, Bool, false, not, ◌||◌, ◌&&◌, cond, List, [], ◌∷◌, eqb, leb, ltb}
use Rattle.rules.specs.Word.{payload_of, field_of, bit_of, size_of, minus_zero, faulty_amount, faulty_days, faulty_grade, nth_in, names_in}

-- a number if its test holds, else the next cause
unfoldable pub cause : ℕ → Bool → ℕ → ℕ
cause number test next = cond test number next

-- kind 3: "gain (at most notional)"
unfoldable pub protection_fault : (w notional gain days : ℕ) → ℕ
protection_fault w notional gain days =
    cause 7 (leb (2 ^ 20) (payload_of w))
    (cause 8 (faulty_amount notional || faulty_amount gain || faulty_days days)
    (cause 9 (ltb (size_of notional) (size_of gain))
    0))

-- kind 2: "p + d at most c"
unfoldable pub asset_fault : (w carrying provision deducted : ℕ) → ℕ
asset_fault w carrying provision deducted =
    cause 7 (leb 2 (payload_of w))
    (cause 8 (faulty_amount carrying || faulty_amount provision || faulty_amount deducted)
    (cause 9 (ltb (size_of carrying) (size_of provision + size_of deducted))
    0))

-- kind 4
unfoldable pub derivative_set_fault : (w received paid posted : ℕ) → ℕ
derivative_set_fault w received paid posted =
    cause 7 (leb (2 ^ 6) (payload_of w))
    (cause 8 (faulty_amount received || faulty_amount paid || faulty_amount posted)
    0)

-- of kind 5: class 7; no principal payment; bought credit with other than one; a qualifying reference of another class
abbrev pub trade_bits_fault : (class payments : ℕ) (qualifying : Bool) → Bool
trade_bits_fault class payments qualifying =
    eqb class 7 || eqb payments 0 || (eqb class 5 && not (eqb payments 1)) || (qualifying && not (eqb class 5))

-- kind 5: "days to next reset (at most remaining; equal to it if bit 11 is 0)"
unfoldable pub trade_fault : (w value notional days reset_days : ℕ) → ℕ
trade_fault w value notional days reset_days =
    cause 7 (leb (2 ^ 13) (payload_of w) || trade_bits_fault (field_of 0 3 w) (field_of 3 8 w) (bit_of 12 w))
    (cause 8 (minus_zero value || faulty_amount notional || faulty_days days || faulty_days reset_days)
    (cause 9 (ltb (size_of days) (size_of reset_days) || (not (bit_of 11 w) && not (eqb (size_of reset_days) (size_of days))))
    0))

-- kind 6: "loss taken into Tier 1 (at most notional)"
unfoldable pub written_fault : (w value notional loss_taken days premiums : ℕ) → ℕ
written_fault w value notional loss_taken days premiums =
    cause 7 (leb (2 ^ 23) (payload_of w))
    (cause 8 (minus_zero value || faulty_amount notional || faulty_amount loss_taken || faulty_days days || faulty_amount premiums)
    (cause 9 (ltb (size_of notional) (size_of loss_taken))
    0))

-- of kind 11: n and m are "both 1 to 32 and n at most m"
abbrev pub names_fault : (nth names : ℕ) → Bool
names_fault nth names = ltb nth 1 || ltb 32 nth || ltb names 1 || ltb 32 names || ltb names nth

-- at least one of these words is
abbrev pub any_of : (ℕ → Bool) → List ℕ → Bool
any_of faulty [] = false
any_of faulty (w ∷ ws) = faulty w || any_of faulty ws

-- kind 11 (request A.3): 17 is "last among that record's causes"
unfoldable pub basket_fault : (w value notional : ℕ) (grades : List ℕ) → ℕ
basket_fault w value notional grades =
    cause 7 (leb (2 ^ 12) (payload_of w))
    (cause 8 (minus_zero value || faulty_amount notional || any_of faulty_amount grades)
    (cause 17 (names_fault (nth_in w) (names_in w) || any_of faulty_grade grades)
    0))

-- kind 7: "Amount, at least 1". The causes 11 to 13 are in Register.
unfoldable pub cover_fault : (w amount : ℕ) → ℕ
cover_fault w amount =
    cause 7 (leb (2 ^ 12) (payload_of w))
    (cause 8 (faulty_amount amount || eqb (size_of amount) 0)
    0)

-- kind 8: "2 further exposure (needs bit 1)"
unfoldable pub financing_set_fault : (w : ℕ) → ℕ
financing_set_fault w = cause 7 (leb (2 ^ 3) (payload_of w) || (bit_of 2 w && not (bit_of 1 w))) 0

-- kind 9: "Securities plus receivable at most gross asset; in an agent set the first four are 0. Days never fall within a set."
unfoldable pub financing_trade_fault : (agent : Bool) (lastDays w asset securities receivable payable lent received days : ℕ) → ℕ
financing_trade_fault agent lastDays w asset securities receivable payable lent received days =
    cause 7 (leb 2 (payload_of w))
    (cause 8 (faulty_amount asset || faulty_amount securities || faulty_amount receivable || faulty_amount payable || faulty_amount lent || faulty_amount received || faulty_days days)
    (cause 9 (ltb (size_of asset) (size_of securities + size_of receivable) || (agent && not (eqb (size_of asset + size_of securities + size_of receivable + size_of payable) 0)))
    (cause 10 (ltb (size_of days) lastDays)
    0)))

-- kind 10: classes 0 to 10, and 0 or one more than a class
unfoldable pub off_balance_fault : (w notional : ℕ) → ℕ
off_balance_fault w notional =
    cause 7 (leb (2 ^ 8) (payload_of w) || ltb 10 (field_of 0 4 w) || ltb 11 (field_of 4 4 w))
    (cause 8 (faulty_amount notional)
    0)
