-- What each of the three functions answers. Assumes nothing.
use Rattle.std.specs.Prelude.{Bool, cond, ◌||◌, ℕ, ◌-◌, ◌^◌, eqb, leb}
use Rattle.rules.specs.Weighted.{weighted_of}

-- the largest number of 64 bits
abbrev pub refusal : ℕ
refusal = 0xffffffffffffffff

-- an add-on that is the refusal itself, so that nothing else answers it; and a gross of which no share is taken
abbrev pub refuses : (x gross : ℕ) → Bool
refuses x gross = eqb x refusal || (eqb gross 0 || leb (2 ^ 59) gross)

unfoldable pub answered : (x gross losses : ℕ) → ℕ
answered x gross losses = cond (refuses x gross) refusal (weighted_of x gross (gross - losses))
