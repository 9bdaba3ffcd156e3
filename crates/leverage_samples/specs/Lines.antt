-- The lines that are written.
use Rattle.std.specs.Prelude.{codes, ℕ, zero, suc, Result, Ok, Err, List, [], ◌++◌, length, ℤ, pos, slice_index_or}
use Rattle.std.specs.Fmt.{decimal, signed_decimal}
use Rattle.rules.specs.declared.causes.Refusal.{Refusal}
use Rattle.rules.specs.declared.verdicts.Verdict.{Verdict}
use Rattle.rules.specs.Numbers.{cause_number, verdict_number}

abbrev pub three_text : ℕ → ℕ → ℕ → List ℕ
three_text number place verdict = decimal number ++ codes " " ++ decimal place ++ codes " " ++ decimal verdict

-- "number 0, place 0 and the verdict (3 on refusal)"
abbrev pub answer_text : Result Verdict Refusal → List ℕ
answer_text (Err r) = three_text (cause_number r.cause) r.place 3
answer_text (Ok verdict) = three_text 0 0 (verdict_number verdict)

-- the first n rows, each behind a space
abbrev pub row_texts : List ℤ → ℕ → List ℕ
row_texts rows zero = []
row_texts rows (suc n) = row_texts rows n ++ codes " " ++ signed_decimal (slice_index_or rows n (pos 0))

abbrev pub line_of : Result Verdict Refusal → List ℤ → List ℕ
line_of answer rows = answer_text answer ++ row_texts rows (length rows) ++ codes "\n"
