-- Sample books, as words: an empty set of each kind, two equal items, a set with covers at its end. Assumes nothing.
use Prim.Native.Nat.{ℕ, ◌+◌, ◌*◌, ◌^◌}
use mathlib.Core.List.{List, [], ◌∷◌, ◌++◌}
use lib.ListN.{length}
use Rattle.cuts.proofs.Written.{joined, book_of}

-- the first word of a record
abbrev pub head_word : (kind payload : ℕ) → ℕ
head_word kind payload = kind * 2 ^ 28 + payload

-- a head with Tier 1 and a date, and one protection
abbrev pub sample_front : List ℕ
sample_front = head_word 1 1 ∷ 50 ∷ 35124 ∷ head_word 3 1 ∷ 500 ∷ 0 ∷ 90 ∷ []

abbrev pub an_asset : (carrying : ℕ) → List ℕ
an_asset carrying = head_word 2 0 ∷ carrying ∷ 0 ∷ 0 ∷ []

abbrev pub empty_set : List ℕ
empty_set = head_word 4 0 ∷ 0 ∷ 0 ∷ 0 ∷ []

abbrev pub a_trade : (value : ℕ) → List ℕ
a_trade value = head_word 5 8 ∷ value ∷ 1000 ∷ 30 ∷ 30 ∷ []

-- the first default among two names, with their grades
abbrev pub a_basket : List ℕ
a_basket = head_word 11 (1 + 2 * 2 ^ 6) ∷ 0 ∷ 1000 ∷ 9 ∷ 8 ∷ []

abbrev pub a_credit : List ℕ
a_credit = head_word 6 1 ∷ 0 ∷ 100 ∷ 0 ∷ 50 ∷ 3 ∷ []

abbrev pub a_cover : (amount : ℕ) → List ℕ
a_cover amount = head_word 7 0 ∷ amount ∷ []

abbrev pub empty_financing : List ℕ
empty_financing = head_word 8 0 ∷ []

abbrev pub a_financing_trade : List ℕ
a_financing_trade = head_word 9 0 ∷ 0 ∷ 0 ∷ 0 ∷ 0 ∷ 10 ∷ 9 ∷ 1 ∷ []

abbrev pub a_commitment : List ℕ
a_commitment = head_word 10 0 ∷ 5 ∷ []

-- a set with one of each kind of member, whose last words are covers
abbrev pub a_set : (value : ℕ) → List ℕ
a_set value = empty_set ++ a_trade value ++ a_basket ++ a_credit ++ a_cover 10 ++ a_cover 20

-- written of its items, with the end word that counts them
abbrev pub book_with : List (List ℕ) → List ℕ
book_with items = book_of sample_front items (head_word 15 (length sample_front + length (joined items)))

abbrev pub sample_items : (carrying value : ℕ) → List (List ℕ)
sample_items carrying value =
    empty_set ∷ an_asset carrying ∷ an_asset 7 ∷ a_set value ∷ empty_financing ∷ (empty_financing ++ a_financing_trade) ∷ a_commitment ∷ []

-- all of them, two of the assets equal
abbrev pub sample : List ℕ
sample = book_with (sample_items 7 0)
