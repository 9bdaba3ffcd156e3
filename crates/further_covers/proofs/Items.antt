-- Items side by side, the second with further cover: the sum of the exposures falls. Assumes nothing.
use native.Mathlib.Omega.{arith}
use Rattle.rules.proofs.Lists.{Every, Pairs}
use Rattle.further_covers.specs.Claims.{ItemsFall}
use Rattle.further_covers.proofs.OneItem.{item_falls, falls_plus}

-- ALL ITEMS, side by side
pub items_fall : ItemsFall
items_fall bands ps qs Pairs.none w = record { more = omega arith; falls = record { at_least = omega arith; at_most = omega arith } }
items_fall bands ps qs (Pairs.more {a} {b} r t) (Every.more h w) = falls_plus (item_falls bands a.item b.item r h) (items_fall bands _ _ t w)
