-- The basket at a place, as its set takes it in. Assumes nothing.
use Rattle.std.specs.Prelude.{ℕ, zero, suc, ◌+◌, List, Result, Ok, Err}
use Rattle.rules.specs.declared.causes.Cause.{Cause}
use Rattle.rules.specs.Numbers.{cause_number}
use Rattle.rules.specs.Word.{word, names_in}
use Rattle.rules.specs.Faults.{basket_fault}
use Rattle.rules.specs.Read.{grades_at, basket_at}
use Rattle.rules.specs.Weigh.{basket_add_on}
use Rattle.records.specs.Cause.{record_cause}
use Rattle.baskets.specs.declared.Basket.{Basket}

-- what a basket brings to its set, and the place behind it; or the number of its cause
pub data BasketRead : Type 0 where
  Whole : (value add_on next : ℕ) → BasketRead
  Refused : (number : ℕ) → BasketRead

-- as the code answers it
abbrev pub read_in : Result Basket Cause → BasketRead
read_in (Ok b) = Whole b.value b.add_on b.next
read_in (Err c) = Refused (cause_number c)

-- the causes 7, 8 and 17, and 6 before them
abbrev pub basket_fault_at : List ℕ → ℕ → ℕ
basket_fault_at ws at = basket_fault (word ws at) (word ws (at + 1)) (word ws (at + 2)) (grades_at ws at)

unfoldable pub basket_cause : List ℕ → ℕ → ℕ
basket_cause ws at = record_cause (names_in (word ws at) + 2) ws at (basket_fault_at ws at)

abbrev pub read_by : (cause : ℕ) → List ℕ → ℕ → BasketRead
read_by zero ws at = Whole (word ws (at + 1)) (basket_add_on (basket_at ws at)) (at + (names_in (word ws at) + 3))
read_by (suc cause) ws at = Refused (suc cause)

abbrev pub basket_read : List ℕ → ℕ → BasketRead
basket_read ws at = read_by (basket_cause ws at) ws at
