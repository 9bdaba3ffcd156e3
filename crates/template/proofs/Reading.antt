-- A signed local is kept as bits, and read back from them: what fits comes back as it was. Assumes nothing.
use mathlib.Core.Path.{◌≡◌, ◌∙◌}
use Prim.Native.Nat.{◌^◌, ◌<◌}
use lib.IntN.{ℤ}
use lib.Signed.{mag}
use mir.Syntax.{w64}
use mir.Val.{of_z, to_z}
use mir.ValLaws.{to_z-of_z}

-- of a call's result z, by what the call ensures of it
pub read : {z v : ℤ} → mag z < 2 ^ 63 → z ≡ v → to_z w64 (of_z w64 z) ≡ v
read {z} {v} h e = to_z-of_z w64 z (record { sfits = h }) ∙ e
