-- Document 01, "Words of the book": a word and its parts. Assumes nothing.
use Rattle.std.specs.Prelude.{ℕ, ◌+◌, ◌/◌, ◌%◌, ◌^◌, Bool, cond, List, [], ◌∷◌, eqb, leb, ltb, get_or}

-- the word at a place
abbrev pub word : List ℕ → ℕ → ℕ
word ws at = get_or ws at 0

-- "bits 31 to 28 are its kind"
abbrev pub kind_of : ℕ → ℕ
kind_of w = w / 2 ^ 28

-- "bits 27 to 0 its payload"
abbrev pub payload_of : ℕ → ℕ
payload_of w = w % 2 ^ 28

-- so many bits from a lowest one on
abbrev pub field_of : (low count w : ℕ) → ℕ
field_of low count w = w / 2 ^ low % 2 ^ count

-- one bit is set
abbrev pub bit_of : (k w : ℕ) → Bool
bit_of k w = eqb (w / 2 ^ k % 2) 1

-- ---- amounts: "bit 27 the sign, bits 26 to 0 the size"

abbrev pub size_of : ℕ → ℕ
size_of w = w % 2 ^ 27

-- an amount as a gain and a loss, one of which is 0
unfoldable pub gain_of : ℕ → ℕ
gain_of w = cond (bit_of 27 w) 0 (size_of w)

unfoldable pub loss_of : ℕ → ℕ
loss_of w = cond (bit_of 27 w) (size_of w) 0

-- "Minus zero is faulty"
abbrev pub minus_zero : ℕ → Bool
minus_zero w = eqb (payload_of w) (2 ^ 27)

-- where no negative is allowed: any amount with the sign, minus zero too
abbrev pub faulty_amount : ℕ → Bool
faulty_amount w = leb (2 ^ 27) (payload_of w)

-- "Amounts called days run from 0 to 65,535"
abbrev pub faulty_days : ℕ → Bool
faulty_days w = ltb 65535 (payload_of w)

-- "a quality grade 0 to 31": the negative amounts have larger payloads too (request A.3)
abbrev pub faulty_grade : ℕ → Bool
faulty_grade w = ltb 31 (payload_of w)

-- ---- records: "A record is a word of its kind, then its amounts"

-- of the head word of a basket: "bits 0-5 n, bits 6-11 the count m of names" (request A.3)
abbrev pub nth_in : ℕ → ℕ
nth_in w = field_of 0 6 w

abbrev pub names_in : ℕ → ℕ
names_in w = field_of 6 6 w

-- how many amounts follow the head word of a record, by its kind from 0 on. A basket, kind 11, has a grade for each name besides its two,
-- "counted by m as written".
abbrev pub amounts_of_kind : (kind w : ℕ) → ℕ
amounts_of_kind kind w = get_or (0 ∷ 2 ∷ 3 ∷ 3 ∷ 3 ∷ 4 ∷ 5 ∷ 1 ∷ 0 ∷ 7 ∷ 1 ∷ (names_in w + 2) ∷ []) kind 0

abbrev pub amounts_in : ℕ → ℕ
amounts_in w = amounts_of_kind (kind_of w) w

-- how many of a word's lowest bits are recognition marks, by its kind alone: one of an asset, six of a derivative set, one of a
-- financing set and one of a financing trade
abbrev pub marks_by_kind : List ℕ
marks_by_kind = 0 ∷ 0 ∷ 1 ∷ 0 ∷ 6 ∷ 0 ∷ 0 ∷ 0 ∷ 1 ∷ 1 ∷ []

abbrev pub marks_of_kind : ℕ → ℕ
marks_of_kind kind = get_or marks_by_kind kind 0

abbrev pub marks_in : ℕ → ℕ
marks_in w = marks_of_kind (kind_of w)
