-- Document 01, "Where an answer is an enum, the promises use a definition": the number, place and verdict of each case; and the stages of
-- a filing as the code has them. Assumes nothing.
use Rattle.std.specs.Prelude.{ℕ, ◌^◌, Bool, true, false, cond, List, Result, Ok, Err, ltb, ℤ, length}
use Rattle.rules.specs.declared.Bands.{Bands}
use Rattle.rules.specs.declared.Entry.{Entry}
use Rattle.rules.specs.declared.causes.Refusal.{Refusal}
use Rattle.rules.specs.declared.verdicts.Verdict.{Verdict}
use Rattle.rules.specs.Numbers.{cause_number, verdict_number}
use Rattle.rules.specs.Read.{head_faulty, date_faulty, head_of}
use Rattle.rules.specs.Rows.{sums_of}
use Rattle.rules.specs.Filing.{Outcome, early, refused, accepted, Filing}
use Rattle.reading.specs.Admission.{Admission}
use Rattle.reading.specs.Admission.{Admitted}
use Rattle.reading.specs.Admission as admission
use Rattle.template.specs.Sections.{SumsFit}

-- ---- an answer: "Accepted: number 0, place 0 and the verdict (3 on refusal)"

abbrev pub number_in : Result Verdict Refusal → ℕ
number_in (Ok verdict) = 0
number_in (Err r) = cause_number r.cause

abbrev pub place_in : Result Verdict Refusal → ℕ
place_in (Ok verdict) = 0
place_in (Err r) = r.place

abbrev pub verdict_of_answer : Result Verdict Refusal → ℕ
verdict_of_answer (Ok verdict) = verdict_number verdict
verdict_of_answer (Err r) = 3

-- ---- the stages

-- the number 2, 3, 16 or 4, or 0 where the records are looked at
unfoldable pub early_number : List ℕ → (entries : ℕ) → ℕ
early_number ws entries =
    cond (ltb (2 ^ 20) (length ws)) 2
    (cond (head_faulty ws) 3
    (cond (date_faulty ws) 16
    (cond (ltb entries (head_of ws).protections) 4
    0)))

abbrev pub refused_in : Admission → Bool
refused_in (Admitted sums) = false
refused_in (admission.Refused number place) = true

-- an outcome as the code has it
abbrev pub admission_of : Bands → Outcome → Admission
admission_of bands (early number) = admission.Refused number 0
admission_of bands (refused number place) = admission.Refused number place
admission_of bands (accepted items left) = Admitted (sums_of bands items)

-- sums that the rows can hold
abbrev pub AdmissionFits : Admission → Type 0
AdmissionFits (admission.Refused number place) = Unit {0}
AdmissionFits (Admitted s) = SumsFit s

-- ---- the filing, as the code has it: its answer, and the rows and the register at exit

abbrev pub filed : Result Verdict Refusal → List ℤ → List Entry → Filing
filed r rows register = record { number = number_in r; place = place_in r; verdict = verdict_of_answer r; rows = rows; register = register }

-- what a caller who lends no register sees of it
pub record Seen : Type 0 where
  pub number : ℕ
  pub place : ℕ
  pub verdict : ℕ
  pub rows : List ℤ

abbrev pub seen : Filing → Seen
seen f = record { number = f.number; place = f.place; verdict = f.verdict; rows = f.rows }
