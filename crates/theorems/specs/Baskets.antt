-- Request A.3: baskets with their figures, and those that are refused, filed with the samples' buffers, which hold another bank's data. Each
-- figure is worked out by hand. Assumes nothing.
use Rattle.std.specs.Prelude.{ℕ, ◌+◌, ◌*◌, ◌^◌, ◌≡◌, List, [], ◌∷◌, ◌++◌, map, pos, neg_ℤ, length, replicate, drop}
use Rattle.rules.specs.Register.{blank}
use Rattle.rules.specs.Filing.{Filing, filing}
use Rattle.theorems.specs.Samples.{head_word, minus, book_of, set_of, financing_of, sold_swap, Sample, sample, row, dirty_rows, dirty_register, AsListed}

-- ---- writing a basket

-- by n and m as written, whatever words follow
abbrev written_as : (nth names : ℕ) → List ℕ → List ℕ
written_as nth names words = head_word 11 (nth + names * 2 ^ 6) ∷ words

abbrev basket_of : (nth value notional : ℕ) → List ℕ → List ℕ
basket_of nth value notional grades = written_as nth (length grades) (value ∷ notional ∷ grades)

-- the n-th of these, in a set without a mark, of value 0 and notional 1,000
abbrev alone : ℕ → List ℕ → List ℕ
alone nth grades = book_of 0 0 (set_of 0 0 ++ basket_of nth 0 1000 grades)

-- ---- what is accepted

-- a basket that qualifies with a gain of 30, and one that does not with a loss of 10
abbrev gain_and_loss : ℕ → List ℕ
gain_and_loss marks = book_of 0 0 (set_of marks 0 ++ basket_of 1 30 1000 (9 ∷ 8 ∷ []) ++ basket_of 2 (minus 10) 1000 (10 ∷ 11 ∷ []))

unfoldable pub baskets : List Sample
baskets =
    -- "Equal grades count separately": of 12, 9 and 12 the second worst is 12, and the third, n = m, 9.
    sample (alone 2 (12 ∷ 9 ∷ 12 ∷ [])) (row 5 (pos 100000) ∷ [])
    ∷ sample (alone 3 (12 ∷ 9 ∷ 12 ∷ [])) (row 5 (pos 50000) ∷ [])
    -- n = 1: the worst, wherever it stands; the second worst qualifies.
    ∷ sample (alone 1 (0 ∷ 10 ∷ 3 ∷ [])) (row 5 (pos 100000) ∷ [])
    ∷ sample (alone 2 (0 ∷ 10 ∷ 3 ∷ [])) (row 5 (pos 50000) ∷ [])
    -- "grades 0 to 9 qualify"; 31 is the last grade.
    ∷ sample (alone 1 (9 ∷ [])) (row 5 (pos 50000) ∷ [])
    ∷ sample (alone 1 (10 ∷ [])) (row 5 (pos 100000) ∷ [])
    ∷ sample (alone 1 (31 ∷ [])) (row 5 (pos 100000) ∷ [])
    -- n and m up to 32: 31 grades of 10 and one of 9.
    ∷ sample (alone 31 (9 ∷ replicate 31 10)) (row 5 (pos 100000) ∷ [])
    ∷ sample (alone 32 (9 ∷ replicate 31 10)) (row 5 (pos 50000) ∷ [])
    -- "It joins V, G and A": values +30 and −10, add-ons 50,000 and 100,000; not netted, and netted, where two thirds of G are net.
    ∷ sample (gain_and_loss 0) (row 4 (pos 30000) ∷ row 5 (pos 150000) ∷ [])
    ∷ sample (gain_and_loss 1) (row 4 (pos 20000) ∷ row 5 (pos 120000) ∷ [])
    -- and not U: in an exempt set row 8 takes its add-on of 50,000, and row 10 only that of the sold swap, 3,000 without cover.
    ∷ sample (book_of 0 0 (set_of (2 ^ 5) 0 ++ basket_of 1 30 1000 (9 ∷ []) ++ sold_swap)) (row 5 (pos 53000) ∷ row 8 (neg_ℤ (pos 80000)) ∷ row 10 (neg_ℤ (pos 3000)) ∷ [])
    ∷ []

-- ---- what is refused

pub record Refused : Type 0 where
  pub book : List ℕ
  pub number : ℕ
  pub place : ℕ

-- behind a protection, in a set without a mark: the set begins at 7, and what follows it at 11
abbrev behind : List ℕ → List ℕ
behind body = book_of 1 0 ((head_word 3 1 ∷ 1 ∷ 0 ∷ 100 ∷ []) ++ body)

abbrev in_set : (number place : ℕ) → List ℕ → Refused
in_set number place body = record { book = behind (set_of 0 0 ++ body); number = number; place = place }

abbrev outside : (number place : ℕ) → List ℕ → Refused
outside number place body = record { book = behind body; number = number; place = place }

abbrev minus_zero : ℕ
minus_zero = minus 0

-- with so many good grades
abbrev good : ℕ → List ℕ
good names = 0 ∷ 1000 ∷ replicate names 9

unfoldable pub refusals : List Refused
refusals =
    -- "n, m or a grade out of range, or n above m, is refused 17"
    in_set 17 11 (written_as 1 0 (good 0))
    ∷ in_set 17 11 (written_as 0 1 (good 1))
    ∷ in_set 17 11 (written_as 2 1 (good 1))
    ∷ in_set 17 11 (written_as 1 33 (good 33))
    ∷ in_set 17 11 (written_as 63 63 (good 63))
    ∷ in_set 17 11 (basket_of 1 0 1000 (32 ∷ []))
    -- "counted by m as written": a word less than m of 33 asks for, and as many with the last of another kind
    ∷ in_set 6 11 (written_as 1 33 (good 32))
    ∷ in_set 6 11 (written_as 1 1 (0 ∷ 1000 ∷ head_word 10 0 ∷ []))
    -- "last among that record's causes": with n of 0, bit 12 is 7, a faulty amount 8, a missing word 6
    ∷ in_set 7 11 (written_as 0 (2 ^ 6 + 1) (good 1))
    ∷ in_set 8 11 (written_as 0 1 (minus_zero ∷ 1000 ∷ 9 ∷ []))
    ∷ in_set 8 11 (written_as 0 1 (0 ∷ minus 1000 ∷ 9 ∷ []))
    ∷ in_set 8 11 (written_as 0 1 (0 ∷ 1000 ∷ minus 9 ∷ []))
    ∷ in_set 8 11 (written_as 0 1 (0 ∷ 1000 ∷ minus_zero ∷ []))
    ∷ in_set 6 11 (written_as 0 2 (good 1))
    -- "inside a derivative set": not before the first, and not in a financing set
    ∷ outside 5 7 (basket_of 1 0 1000 (9 ∷ []))
    ∷ outside 5 8 (financing_of 0 ++ basket_of 1 0 1000 (9 ∷ []))
    -- a cover behind a basket, alone and between a written credit and its cover
    ∷ in_set 5 15 (basket_of 1 0 1000 (9 ∷ []) ++ (head_word 7 0 ∷ 1 ∷ []))
    ∷ in_set 5 21 (sold_swap ++ basket_of 1 0 1000 (9 ∷ []) ++ (head_word 7 0 ∷ 1 ∷ []))
    ∷ []

-- a refusal in the records: the rows stay, and of the two entries the first, which holds the protection, is zero
abbrev refused_as : Refused → Filing
refused_as r = record { number = r.number; place = r.place; verdict = 3; rows = dirty_rows; register = blank ∷ drop 1 dirty_register }

abbrev filed : Refused → Filing
filed r = filing r.book dirty_rows dirty_register

pub record BasketCases : Type 0 where
  pub accepted : AsListed baskets
  pub refused : map filed refusals ≡ map refused_as refusals
