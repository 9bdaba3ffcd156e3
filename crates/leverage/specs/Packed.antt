-- An answer in one number, for callers in C: the number, then the verdict from bit 8 and the place from bit 16 on; and the counts that
-- stand beside one. Assumes nothing.
use Rattle.std.specs.Prelude.{ℕ, ◌+◌, ◌*◌, ◌%◌, List, [], ◌∷◌}
use Rattle.rules.specs.Filing.{Filing}
use Rattle.std.specs.Prelude.{Result}
use Rattle.rules.specs.declared.causes.Refusal.{Refusal}
use Rattle.rules.specs.declared.verdicts.Verdict.{Verdict}
use Rattle.filing.specs.Answers.{number_in, place_in, verdict_of_answer}
use Rattle.sets.specs.Sets.{Shown}
use Rattle.settings.specs.Settings.{Counted}

abbrev pub packed_answer : Result Verdict Refusal → ℕ
packed_answer r = number_in r + 256 * verdict_of_answer r + 65536 * (place_in r % 4294967296)

abbrev pub packed : Filing → ℕ
packed f = f.number + 256 * f.verdict + 65536 * (f.place % 4294967296)

-- an answer without a verdict has that of a refused book
abbrev pub without_verdict : (number place : ℕ) → ℕ
without_verdict number place = number + 256 * 3 + 65536 * (place % 4294967296)

abbrev pub packed_shown : Shown → ℕ
packed_shown s = without_verdict s.number s.place

abbrev pub packed_counted : Counted → ℕ
packed_counted c = without_verdict c.number c.place

-- each at the place that is the number of its verdict
abbrev pub counts_in : Counted → List ℕ
counts_in c = c.met ∷ c.missed ∷ c.no_exposure ∷ []
