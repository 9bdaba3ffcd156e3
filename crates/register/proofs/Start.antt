-- A book of which nothing is read yet. Assumes nothing.
use Prim.Native.Nat.{ℕ}
use mathlib.Core.Path.{◌≡◌, refl}
use mathlib.Core.List.{List}
use Rattle.rules.specs.Read.{first_record}
use Rattle.records.specs.Readable.{Readable}
use Rattle.reading.specs.Ahead.{records_ahead, ahead, new_cursor, Sound}

-- all of its records lie ahead
pub start_ahead : (ws : List ℕ) → ahead ws (new_cursor ws) ≡ records_ahead ws
unfolding ahead
start_ahead ws = refl

pub start_sound : (ws : List ℕ) → Readable first_record ws → Sound ws (new_cursor ws)
start_sound ws r = record { readable = r; bands = refl; stage = tt }
