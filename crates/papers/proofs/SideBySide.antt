-- The sets of two books whose items stand side by side do so too, ordinal by ordinal. Assumes nothing.
use Prim.Native.Nat.{ℕ, zero, suc}
use mathlib.Core.Path.{◌≡◌, refl}
use mathlib.Core.Bool.{Bool, true, false, cond}
use mathlib.Core.List.{List, ◌∷◌}
use mathlib.Core.Option.{Option, none, some}
use lib.ListN.{get_elem?}
use Rattle.rules.specs.Book.{Item, Placed}
use Rattle.rules.proofs.Lists.{Pairs}
use Rattle.two_desks.proofs.Related.{MoreItem, MorePlaced}
use Rattle.sets.specs.Sets.{is_set, sets_of}

same_set : {i j : Item} → MoreItem i j → is_set i ≡ is_set j
same_set (MoreItem.of_assets m) = refl
same_set (MoreItem.for_derivatives m) = refl
same_set (MoreItem.for_financing m) = refl
same_set MoreItem.for_off_balance = refl

sets_beside : {ps qs : List Placed} → Pairs MorePlaced ps qs → Pairs MorePlaced (sets_of ps) (sets_of qs)
unfolding sets_of
sets_beside Pairs.none = Pairs.none
sets_beside (Pairs.more {a} {b} {xs} {ys} m t) = rw (← same_set m.item) (go (is_set a.item) (sets_beside t))
  where
    go : (s : Bool) → Pairs MorePlaced (sets_of xs) (sets_of ys) → Pairs MorePlaced (cond s (a ∷ sets_of xs) (sets_of xs)) (cond s (b ∷ sets_of ys) (sets_of ys))
    go true r = Pairs.more m r
    go false r = r

-- what both have of an ordinal, if any
pub data Beside : Option Placed → Option Placed → Type 0 where
  nothing : Beside none none
  both : {p q : Placed} → MorePlaced p q → Beside (some p) (some q)

nth_beside : {ps qs : List Placed} → Pairs MorePlaced ps qs → (n : ℕ) → Beside (get_elem? ps n) (get_elem? qs n)
nth_beside Pairs.none n = nothing
nth_beside (Pairs.more m t) zero = both m
nth_beside (Pairs.more m t) (suc n) = nth_beside t n

pub set_beside : {ps qs : List Placed} → Pairs MorePlaced ps qs → (ordinal : ℕ) → Beside (get_elem? (sets_of ps) ordinal) (get_elem? (sets_of qs) ordinal)
set_beside r ordinal = nth_beside (sets_beside r) ordinal
