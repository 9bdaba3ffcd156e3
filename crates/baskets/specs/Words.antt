-- The words of a basket, with what its grades come to: its causes, and its add-on by a count. Assumes nothing.
use Rattle.std.specs.Prelude.{ℕ, ◌+◌, ◌*◌, ◌^◌, ◌||◌, List, leb, ltb}
use Rattle.rules.specs.Word.{word, payload_of, size_of, minus_zero, faulty_amount, faulty_grade, nth_in, names_in}
use Rattle.rules.specs.Faults.{cause, names_fault}
use Rattle.rules.specs.Factors.{credit_factor}
use Rattle.rules.specs.Read.{grades_at}
use Rattle.baskets.specs.declared.read.BasketWords.{BasketWords}
use Rattle.baskets.specs.Grades.{no_amount, grades_of}

abbrev pub basket_words : List ℕ → ℕ → BasketWords
basket_words ws at = record { head = word ws at; value = word ws (at + 1); notional = word ws (at + 2); all = (grades_of (grades_at ws at)).all; failing = (grades_of (grades_at ws at)).failing }

-- the causes 6, 7, 8 and 17 of a basket whose words are all there, with the bits of all grades as one grade
unfoldable pub cause_of : BasketWords → ℕ
cause_of b =
    cause 6 (no_amount b.value || no_amount b.notional || no_amount b.all)
    (cause 7 (leb (2 ^ 12) (payload_of b.head))
    (cause 8 (minus_zero b.value || faulty_amount b.notional || faulty_amount b.all)
    (cause 17 (names_fault (nth_in b.head) (names_in b.head) || faulty_grade b.all)
    0)))

-- it qualifies where fewer than n of its grades do not
abbrev pub add_on_of : BasketWords → ℕ
add_on_of b = credit_factor (ltb b.failing (nth_in b.head)) * size_of b.notional
