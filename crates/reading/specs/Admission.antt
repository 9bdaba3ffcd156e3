-- What a book comes to: admitted with its sums, or refused with a number at a place. Assumes nothing.
use Rattle.std.specs.Prelude.{ℕ}
use Rattle.rules.specs.declared.Sums.{Sums}

pub data Admission : Type 0 where
  Admitted : Sums → Admission
  Refused : (number place : ℕ) → Admission
