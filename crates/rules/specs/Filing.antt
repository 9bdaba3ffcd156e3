-- Document 01, "When a book is turned away", as one record: what a filing answers, and what it leaves in the two lent buffers, for
-- all arguments. Assumes nothing.
use Rattle.std.specs.Prelude.{ℕ, ◌^◌, cond, List, ◌++◌, map, eqb, ltb, ℤ, length, drop, replicate}
use Rattle.rules.specs.declared.Entry.{Entry}
use Rattle.rules.specs.Book.{Head, Placed}
use Rattle.rules.specs.Run.{Run}
use Rattle.rules.specs.Read.{head_faulty, date_faulty, head_of, protections_of, items_of}
use Rattle.rules.specs.Register.{blank, entry_of, draws_over, Settled, unfit, settled, settle}
use Rattle.rules.specs.Rows.{sums_of, exposure_row, rows_of}
use Rattle.rules.specs.Ratio.{tier1_of, verdict_of}

-- how far a filing comes: refused before the records are looked at (1 to 4, and 16), refused in the records, or accepted with its items and
-- what is left of the protections
pub data Outcome : Type 0 where
  early : (number : ℕ) → Outcome
  refused : (number place : ℕ) → Outcome
  accepted : List Placed → List Entry → Outcome

-- the covers all stand before the record at which the reading stops, so the first that is unfit is the first faulty record
abbrev pub judged : Run Placed → Settled → Outcome
judged r (unfit number place) = refused number place
judged r (settled entries) = cond (eqb r.number 0) (accepted r.records entries) (refused r.number r.place)

unfoldable pub records_outcome : List ℕ → Outcome
records_outcome ws = judged (items_of ws) (settle (map entry_of (protections_of ws).records) (draws_over (items_of ws).records))

-- a book with a register of so many entries: 2, 3, then 16, "after 3 and before 4" (request A.2), 4, then the records
unfoldable pub admission : List ℕ → ℕ → Outcome
admission ws entries =
    cond (ltb (2 ^ 20) (length ws)) (early 2)
    (cond (head_faulty ws) (early 3)
    (cond (date_faulty ws) (early 16)
    (cond (ltb entries (head_of ws).protections) (early 4)
    (records_outcome ws))))

-- with so many rows: "rows shorter than 22" comes first
unfoldable pub outcome_of : List ℕ → (rows entries : ℕ) → Outcome
outcome_of ws rows entries = cond (ltb rows 22) (early 1) (admission ws entries)

-- ---- what it answers: "Accepted: number 0, place 0 and the verdict (3 on refusal)"

abbrev pub number_of : Outcome → ℕ
number_of (early number) = number
number_of (refused number place) = number
number_of (accepted items entries) = 0

abbrev pub place_of : Outcome → ℕ
place_of (early number) = 0
place_of (refused number place) = place
place_of (accepted items entries) = 0

abbrev pub verdict_in : Head → Outcome → ℕ
verdict_in head (early number) = 3
verdict_in head (refused number place) = 3
verdict_in head (accepted items entries) = verdict_of (tier1_of head.gain head.loss) (exposure_row (sums_of head.bands items))

-- ---- what it leaves

-- "in the first 22 places of the lent rows (later places stay) ... written only on acceptance"
abbrev pub rows_after : Head → Outcome → List ℤ → List ℤ
rows_after head (early number) rows = rows
rows_after head (refused number place) rows = rows
rows_after head (accepted items entries) rows = rows_of (sums_of head.bands items) head.gain head.loss ++ drop 22 rows

-- "From 5 on the first b entries become all zero ... entry i below b holds protection i and what is left. Entries from b on stay."
abbrev pub register_after : Head → Outcome → List Entry → List Entry
register_after head (early number) register = register
register_after head (refused number place) register = replicate head.protections blank ++ drop head.protections register
register_after head (accepted items entries) register = entries ++ drop head.protections register

-- ---- the filing

pub record Filing : Type 0 where
  pub number : ℕ
  pub place : ℕ
  pub verdict : ℕ
  pub rows : List ℤ
  pub register : List Entry

abbrev pub filing_of : Head → Outcome → List ℤ → List Entry → Filing
filing_of head outcome rows register = record {
  number = number_of outcome;
  place = place_of outcome;
  verdict = verdict_in head outcome;
  rows = rows_after head outcome rows;
  register = register_after head outcome register;
}

unfoldable pub filing : List ℕ → List ℤ → List Entry → Filing
filing ws rows register = filing_of (head_of ws) (outcome_of ws (length rows) (length register)) rows register
