-- What the reading answers at each of its levels. Assumes nothing.
use Rattle.std.specs.Prelude.{ℕ, zero, suc, ◌+◌, ◌*◌, ◌^◌, ◌≤◌, cond, List, eqb, Result, Ok, Err}
use Rattle.rules.specs.declared.Bands.{Bands}
use Rattle.rules.specs.declared.Sums.{Sums}
use Rattle.rules.specs.declared.causes.Refusal.{Refusal}
use Rattle.rules.specs.Numbers.{cause_number}
use Rattle.rules.specs.Book.{Protection, Placed}
use Rattle.rules.specs.Run.{Turn, over, bad, some, Run}
use Rattle.rules.specs.Rows.{sums_of}
use Rattle.records.specs.Readable.{Readable}
use Rattle.reading.specs.Admission.{Admission}
use Rattle.reading.specs.Admission.{Admitted, Refused}

-- ---- protections

-- how far they reach, or the number and the place of the first fault
pub data Protections : Type 0 where
  upto : (place : ℕ) → Protections
  refused : (number place : ℕ) → Protections

abbrev pub protection_step : Turn Protection → Protections
protection_step over = upto 0
protection_step (bad number place) = refused number place
protection_step (some p zero next) = upto next
protection_step (some p (suc number) place) = refused (suc number) place

unfoldable pub place_of : Run Protection → Protections
place_of r = cond (eqb r.number 0) (upto r.place) (refused r.number r.place)

-- as the code answers it
abbrev pub protections_in : Result ℕ Refusal → Protections
protections_in (Ok place) = upto place
protections_in (Err r) = refused (cause_number r.cause) r.place

-- ---- items

-- all sums together
unfoldable pub all_sums : Sums → ℕ
all_sums s =
    s.assets + s.deducted + s.replacement + s.weighted + s.posted + s.offset + s.exempt + s.written + s.covered + s.financed + s.netted + s.principal + s.agent + s.committed + s.unconverted

-- sums as they can be at a place of a book: at most 2 ^ 41 for each word before it
pub record SumsUpTo (ws : List ℕ) (s : Sums) (at : ℕ) : Type 0 where
  pub readable : Readable at ws
  pub small : all_sums s ≤ 2 ^ 41 * at

-- ---- the book

-- the sums of all items, or the first fault
unfoldable pub reading_of : Bands → Run Placed → Admission
reading_of bands r = cond (eqb r.number 0) (Admitted (sums_of bands r.records)) (Refused r.number r.place)

-- as the code refuses it
abbrev pub refused_by : Refusal → Admission
refused_by r = Refused (cause_number r.cause) r.place
