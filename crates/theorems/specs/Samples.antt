-- Document 01, "Sample books": the starred ones, as books with the results listed there, at the date of request A.2. Assumes nothing.
use Rattle.std.specs.Prelude.{ℕ, ◌+◌, ◌-◌, ◌*◌, ◌^◌, ◌≡◌, List, [], ◌∷◌, ◌++◌, map, ℤ, pos, neg_ℤ, ◌+ℤ◌, length, get_or, replicate}
use Rattle.rules.specs.declared.Entry.{Entry}
use Rattle.rules.specs.Read.{first_record}
use Rattle.rules.specs.Filing.{Filing, filing}

-- ---- writing a book

-- the head word of a record
abbrev pub head_word : (kind payload : ℕ) → ℕ
head_word kind payload = kind * 2 ^ 28 + payload

-- an amount below 0
abbrev pub minus : ℕ → ℕ
minus n = 2 ^ 27 + n

-- "Sample books and the printed case get the date 35,124 (1 March 2096), from which those counts are still 365 and 1,825"
abbrev pub sample_date : ℕ
sample_date = 35124

-- a body between the head and the end word
abbrev pub book_of : (protections tier1 : ℕ) → List ℕ → List ℕ
book_of protections tier1 body = head_word 1 protections ∷ tier1 ∷ sample_date ∷ (body ++ (head_word 15 (first_record + length body) ∷ []))

-- an asset of which all is exposure
abbrev asset_of : ℕ → List ℕ
asset_of carrying = head_word 2 0 ∷ carrying ∷ 0 ∷ 0 ∷ []

-- a derivative set by its marks and the cash margin received
abbrev pub set_of : (marks received : ℕ) → List ℕ
set_of marks received = head_word 4 marks ∷ received ∷ 0 ∷ 0 ∷ []

-- a trade with one principal payment; with bit 11 it resets
abbrev pub trade_of : (class value notional days : ℕ) → List ℕ
trade_of class value notional days = head_word 5 (class + 1 * 2 ^ 3) ∷ value ∷ notional ∷ days ∷ days ∷ []

abbrev resetting_of : (class value notional days reset_days : ℕ) → List ℕ
resetting_of class value notional days reset_days = head_word 5 (class + 1 * 2 ^ 3 + 2 ^ 11) ∷ value ∷ notional ∷ days ∷ reset_days ∷ []

-- a financing set by its marks, and a trade by its mark and amounts
abbrev pub financing_of : (marks : ℕ) → List ℕ
financing_of marks = head_word 8 marks ∷ []

abbrev financing_trade_of : (mark asset receivable payable lent received days : ℕ) → List ℕ
financing_trade_of mark asset receivable payable lent received days = head_word 9 mark ∷ asset ∷ 0 ∷ receivable ∷ payable ∷ lent ∷ received ∷ days ∷ []

-- the sold default swap of the samples: entity 1, rank 0, qualifying, with a close-out clause, 100 days
abbrev pub sold_swap : List ℕ
sold_swap = head_word 6 (1 + 2 ^ 20 + 2 ^ 22) ∷ 0 ∷ 100 ∷ 0 ∷ 100 ∷ 3 ∷ []

-- ---- a sample and what is listed of it

pub data Figure : Type 0 where
  -- the sum of some rows, in thousandths
  sum_of : List ℕ → ℤ → Figure
  verdict : ℕ → Figure

abbrev pub row : ℕ → ℤ → Figure
row k = sum_of (k ∷ [])

pub record Sample : Type 0 where
  pub book : List ℕ
  pub listed : List Figure

abbrev rates : ℕ → List ℕ
rates days = book_of 0 0 (set_of 0 0 ++ trade_of 0 0 1000 days)

abbrev rates_resetting : ℕ → List ℕ
rates_resetting days = book_of 0 0 (set_of 0 0 ++ resetting_of 0 0 1000 days 30)

-- two currency trades of 1,000 each, 365 days
abbrev currencies : (marks received first second : ℕ) → List ℕ
currencies marks received first second = book_of 0 0 (set_of marks received ++ trade_of 1 first 1000 365 ++ trade_of 1 second 1000 365)

-- lent 100 against 90, and 50 against 70
abbrev lending : ℕ → List ℕ
lending mark = book_of 0 0 (financing_of mark ++ financing_trade_of 0 0 0 0 100 90 1 ++ financing_trade_of 0 0 0 0 50 70 1)

abbrev pub sample : List ℕ → List Figure → Sample
sample book listed = record { book = book; listed = listed }

unfoldable pub samples : List Sample
samples =
    -- Rates, notional 1,000: 365 days 0; 366 and 1,825 days 5,000; 1,826 days 15,000.
    sample (rates 365) (row 5 (pos 0) ∷ [])
    ∷ sample (rates 366) (row 5 (pos 5000) ∷ [])
    ∷ sample (rates 1825) (row 5 (pos 5000) ∷ [])
    ∷ sample (rates 1826) (row 5 (pos 15000) ∷ [])
    -- Rates resetting in 30 days, notional 1,000: remaining 365, 0; 400, 5,000.
    ∷ sample (rates_resetting 365) (row 5 (pos 0) ∷ [])
    ∷ sample (rates_resetting 400) (row 5 (pos 5000) ∷ [])
    -- Two currency trades, 1,000 each, 365 days, values +30, −10: netted 20,000 and add-on 16,000; margin 5 with all marks 15,000 and
    -- 16,000; unmarked 30,000 and 20,000.
    ∷ sample (currencies 1 0 30 (minus 10)) (row 4 (pos 20000) ∷ row 5 (pos 16000) ∷ [])
    ∷ sample (currencies 31 5 30 (minus 10)) (row 4 (pos 15000) ∷ row 5 (pos 16000) ∷ [])
    ∷ sample (currencies 0 0 30 (minus 10)) (row 4 (pos 30000) ∷ row 5 (pos 20000) ∷ [])
    -- The same netted, values +30, −40: 0 and 8,000. Values 0, −10: 0 and 20,000.
    ∷ sample (currencies 1 0 30 (minus 40)) (row 4 (pos 0) ∷ row 5 (pos 8000) ∷ [])
    ∷ sample (currencies 1 0 0 (minus 10)) (row 4 (pos 0) ∷ row 5 (pos 20000) ∷ [])
    -- Netted, 365 days: currency notional 1, value +7, with notional 0, value −6: add-on 5.
    ∷ sample (book_of 0 0 (set_of 1 0 ++ trade_of 1 7 1 365 ++ trade_of 1 (minus 6) 0 365)) (row 5 (pos 5) ∷ [])
    -- Lent 100 against 90 and 50 against 70: 0 netted, 10,000 not.
    ∷ sample (lending 1) (row 14 (pos 0) ∷ [])
    ∷ sample (lending 0) (row 14 (pos 10000) ∷ [])
    -- Receivable 40 in one trade, payable 25 in another, same settlement day, both marked: row 13 is −25,000.
    ∷ sample (book_of 0 0 (financing_of 0 ++ financing_trade_of 1 40 40 0 0 0 2 ++ financing_trade_of 1 0 0 25 0 0 2)) (row 13 (neg_ℤ (pos 25000)) ∷ [])
    -- Default swap sold, 100, qualifying, close-out, premiums 3, no loss, value 0: rows 9 to 10 with 5 total 100,000 uncovered; with a
    -- cover of 1, 99,030 (request A.6).
    ∷ sample (book_of 0 0 (set_of 0 0 ++ sold_swap)) (sum_of (9 ∷ 10 ∷ 5 ∷ []) (pos 100000) ∷ [])
    ∷ sample (book_of 1 0 ((head_word 3 1 ∷ 1 ∷ 0 ∷ 100 ∷ []) ++ set_of 0 0 ++ sold_swap ++ (head_word 7 0 ∷ 1 ∷ []))) (sum_of (9 ∷ 10 ∷ 5 ∷ []) (pos 99030) ∷ [])
    -- Tier 1 3: exposure 100 gives 300, verdict 0; 101 gives 297, verdict 1. Tier 1 −1, exposure 3: −3,334, verdict 1.
    ∷ sample (book_of 0 3 (asset_of 100)) (row 22 (pos 300) ∷ verdict 0 ∷ [])
    ∷ sample (book_of 0 3 (asset_of 101)) (row 22 (pos 297) ∷ verdict 1 ∷ [])
    ∷ sample (book_of 0 (minus 1) (asset_of 3)) (row 22 (neg_ℤ (pos 3334)) ∷ verdict 1 ∷ [])
    -- Head 0x10000000 0x00000000 with the date, end 0xF0000003: verdict 2.
    ∷ sample (book_of 0 0 []) (verdict 2 ∷ [])
    ∷ []

-- ---- the claim: each is accepted, and gives every listed figure, filed with one pair of buffers that hold another bank's data

abbrev sum_rows : Filing → List ℕ → ℤ
sum_rows f [] = pos 0
sum_rows f (k ∷ ks) = get_or f.rows (k - 1) (pos 0) +ℤ sum_rows f ks

abbrev given : Filing → Figure → Figure
given f (sum_of ks listed) = sum_of ks (sum_rows f ks)
given f (verdict listed) = verdict f.verdict

-- a sample with what its filing gives in the place of what is listed
abbrev filed : List ℤ → List Entry → Sample → Sample
filed rows register s = record { book = s.book; listed = map (given (filing s.book rows register)) s.listed }

abbrev number_of : List ℤ → List Entry → Sample → ℕ
number_of rows register s = (filing s.book rows register).number

-- rows and a register that hold another bank's data
abbrev pub dirty_rows : List ℤ
dirty_rows = replicate 23 (pos 7)

abbrev pub dirty_register : List Entry
dirty_register = replicate 2 (record { entity = 9; rank = 9; days = 9; left = 9 })

pub record AsListed (some : List Sample) : Type 0 where
  pub accepted : map (number_of dirty_rows dirty_register) some ≡ replicate (length some) 0
  pub given_as_listed : map (filed dirty_rows dirty_register) some ≡ some

abbrev pub AllSamples : Type 0
AllSamples = AsListed samples
