-- One item, the second time with further cover: its exposure falls. Assumes nothing.
use Prim.Native.Nat.{ℕ, ◌+◌}
use native.Mathlib.Omega.{arith}
use Rattle.rules.specs.declared.Bands.{Bands}
use Rattle.rules.specs.Book.{Item}
use Rattle.laws.specs.Exposure.{CoversWithin, exposure_of}
use Rattle.cuts.specs.Further.{ItemByCredits}
use Rattle.further_covers.specs.Claims.{FallsWith, CoveredNoLess, cover_in}
use Rattle.further_covers.proofs.Members.{members_move}
use Rattle.further_covers.proofs.Sets.{set_falls}

-- one item
pub item_falls : (bands : Bands) (i j : Item) → ItemByCredits CoveredNoLess i j → CoversWithin j → FallsWith (exposure_of bands i) (exposure_of bands j) (cover_in i) (cover_in j)
item_falls bands i j ItemByCredits.same within = record { more = omega arith; falls = record { at_least = omega arith; at_most = omega arith } }
item_falls bands i j (ItemByCredits.for_derivatives {s} {t} r) within = record { more = omega (arith, (members_move bands r.members).covers); falls = set_falls bands s t r within }

-- two of them, one after the other
pub falls_plus : {x y c c' x' y' d d' : ℕ} → FallsWith x y c c' → FallsWith x' y' d d' → FallsWith (x + x') (y + y') (c + d) (c' + d')
falls_plus p q = record { more = omega arith; falls = record { at_least = omega arith; at_most = omega arith } }
