-- What the words of a basket's grades come to, as one pass over them gathers it. Assumes nothing.
use Rattle.std.specs.Prelude.{ℕ, ◌+◌, min, max, Bool, not, cond, List, [], ◌∷◌, map, eqb, ltb}
use Rattle.std.specs.Int.Bits.{bit_or}
use Rattle.rules.specs.Word.{kind_of, size_of}
use Rattle.rules.specs.Book.{total}
use Rattle.rules.specs.Weigh.{last_qualifying}
use Rattle.baskets.specs.declared.grades.Grades.{Grades}

-- a word that is no amount
abbrev pub no_amount : ℕ → Bool
no_amount w = not (eqb (kind_of w) 0)

-- the bits of all these words, on top of some
abbrev pub bits_with : ℕ → List ℕ → ℕ
bits_with bits [] = bits
bits_with bits (w ∷ ws) = bits_with (bit_or bits w) ws

-- how many of these grades are above one, equal ones separately
abbrev pub count_above : ℕ → List ℕ → ℕ
count_above k = total (λ (g : ℕ). cond (ltb k g) 1 0)

-- with one word more
abbrev pub with_grade : Grades → ℕ → Grades
with_grade g w = record { all = bit_or g.all w; failing = g.failing + cond (ltb last_qualifying (size_of w)) 1 0 }

-- with all of these
abbrev pub plus_grades : Grades → List ℕ → Grades
plus_grades g ws = record { all = bits_with g.all ws; failing = g.failing + count_above last_qualifying (map size_of ws) }

abbrev pub grades_of : List ℕ → Grades
grades_of ws = record { all = bits_with 0 ws; failing = count_above last_qualifying (map size_of ws) }

-- how many of the words left behind the amounts are looked at: where so many are left, as many as a basket may have names
abbrev pub looked_at : ℕ → ℕ → ℕ
looked_at names left = min left (max names 32)

-- the word at a place, counted as 0 behind the last name
abbrev pub counted_at : ℕ → ℕ → ℕ → ℕ
counted_at names i w = cond (ltb i names) w 0
