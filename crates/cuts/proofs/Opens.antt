-- The kinds that items and the end are found by: the definition. Assumes nothing.
use Prim.Native.Nat.{ℕ}
use mathlib.Core.Bool.{Bool, ◌||◌}
use lib.Dec.{eqb}
use Rattle.cuts.proofs.Cutting.{is_item}

-- the kinds of the first words of items, and that of the end word
abbrev pub opens : ℕ → Bool
opens kind = is_item kind || eqb kind 15
