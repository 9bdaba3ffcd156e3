-- The causes 6 to 10 of a record. Assumes nothing.
use Rattle.std.specs.Prelude.{ℕ, Bool, ◌&&◌, cond, List, eqb}
use Rattle.rules.specs.Read.{lacks, stands}

-- "too few words, or an amount not of kind 0", else what its words come to
abbrev pub record_cause : (amounts : ℕ) → List ℕ → (at fault : ℕ) → ℕ
record_cause amounts ws at fault = cond (lacks amounts ws at) 6 fault

-- a record of some kind stands at a place, and no cause fits it
abbrev pub sound_record : (kind amounts : ℕ) → List ℕ → (at fault : ℕ) → Bool
sound_record kind amounts ws at fault = stands kind ws at && eqb (record_cause amounts ws at fault) 0
