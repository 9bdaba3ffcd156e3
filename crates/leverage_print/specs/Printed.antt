-- What the program prints (document 01, "The printing program"). Assumes nothing.
use Rattle.std.specs.Prelude.{codes, ℕ, zero, suc, ◌+◌, ◌*◌, ◌/◌, ◌%◌, cond, eqb, ltb, List, [], ◌∷◌, ◌++◌, length, replicate, ℤ, pos, slice_index_or}
use Rattle.std.specs.Fmt.{decimal, signed_decimal}
use Rattle.rules.specs.Register.{blank}
use Rattle.rules.specs.Filing.{filing}
use Rattle.filing.specs.Answers.{Seen, seen}
use Rattle.streams.specs.Words.{word_at}

-- "row number, space, value", the rows counted from 1
abbrev pub row_line : ℕ → ℤ → List ℕ
row_line number value = decimal number ++ codes " " ++ signed_decimal value ++ codes "\n"

-- the first n lines
abbrev pub row_lines : List ℤ → ℕ → List ℕ
row_lines rows zero = []
row_lines rows (suc n) = row_lines rows n ++ row_line (n + 1) (slice_index_or rows n (pos 0))

abbrev pub refused_line : ℕ → ℕ → List ℕ
refused_line number place = codes "refused " ++ decimal number ++ codes " at " ++ decimal place ++ codes "\n"

abbrev pub verdict_line : ℕ → List ℕ
verdict_line verdict = codes "verdict " ++ decimal verdict ++ codes "\n"

-- ---- a filing: "3 on refusal", so that its number tells

abbrev pub text_of : Seen → List ℕ
text_of s = cond (eqb s.number 0) (row_lines s.rows 22 ++ verdict_line s.verdict) (refused_line s.number s.place)

-- ---- the input

-- the first n words of the bytes, four to a word
abbrev pub words_of : List ℕ → ℕ → List ℕ
words_of bytes zero = []
words_of bytes (suc n) = words_of bytes n ++ word_at bytes n ∷ []

-- what is printed of a book of so many bytes: its filing, with rows of 0 and "1,024 register entries of its own"
unfoldable pub book_text : List ℕ → List ℕ
book_text bytes = text_of (seen (filing (words_of bytes (length bytes / 4)) (replicate 22 (pos 0)) (replicate 1024 blank)))

-- "holds 16,384 words"
abbrev pub own_bytes : ℕ
own_bytes = 4 * 16384

-- what is printed for so many bytes on the standard input
unfoldable pub printed : List ℕ → List ℕ
printed bytes =
    cond (ltb own_bytes (length bytes)) (codes "input 2\n")
    (cond (eqb (length bytes % 4) 0) (book_text bytes) (codes "input 1\n"))
