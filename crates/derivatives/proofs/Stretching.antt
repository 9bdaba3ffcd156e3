-- The loop over the trades and written credits of a set: what lies ahead stays the same at every turn, and each way out of it. Assumes nothing.
use Prim.Native.Nat.{ℕ, ◌≤◌}
use mathlib.Core.Path.{◌≡◌}
use mathlib.Core.List.{List}
use Rattle.rules.specs.declared.Bands.{Bands}
use Rattle.derivatives.specs.declared.set.OpenSet.{OpenSet}
use Rattle.derivatives.specs.Ahead.{set_ahead, SoundSet}

pub record Stretching (bands : Bands) (ws : List ℕ) (begin : ℕ) (from o : OpenSet) : Type 0 where
  pub same : set_ahead bands ws begin from ≡ set_ahead bands ws begin o
  pub sound : SoundSet ws o
  pub reached : from.at ≤ o.at
