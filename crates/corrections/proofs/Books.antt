-- Two books that are read without a fault and are equal but for one amount: if a claim speaks of it, they have the same head, and all items but one are
-- the same. Assumes nothing.
use Prim.Native.Nat.{ℕ, ◌+◌, ◌-◌, ◌≤◌, ◌<◌}
use mathlib.Core.Path.{◌≡◌, ◌∙◌}
use mathlib.Core.Bool.{true}
use mathlib.Core.List.{List, ◌∷◌, ◌++◌, flat_map}
use native.Mathlib.Omega.{arith}
use native.Mathlib.Decide.{dec_lt}
use lib.ListN.{length, drop, replicate, length-replicate, get_or-append}
use lib.Seq.{get_or-drop}
use Rattle.rules.specs.Word.{word}
use Rattle.rules.specs.Book.{Placed}
use Rattle.rules.specs.Read.{head_of, protections_of, items_of}
use Rattle.rules.proofs.Lists.{Every}
use Rattle.laws.proofs.Each.{every_first, every_append}
use Rattle.laws.proofs.Valid.{valid_items}
use Rattle.cuts.specs.Words.{OneAmount}
use Rattle.cuts.proofs.Cutting.{items_begin, book_cut}
use Rattle.cuts.proofs.OneAmount.{PlacedOther, one_behind, items_other}
use Rattle.corrections.specs.Roles.{outside, Role, other, placed_roles, role_at}
use Rattle.corrections.proofs.Apart.{OneOf, one_of}
use Rattle.corrections.proofs.Corrected.{Corrected}
use Rattle.corrections.proofs.Allowed.{Allowed, here_allowed}
use Rattle.corrections.proofs.Places.{role_in, role_of_other, spoken_of, none_there, replicate_none}
use Rattle.corrections.proofs.Counted.{placed_words}
use Rattle.corrections.proofs.Items.{item_corrected}

-- what all elements have, that one has
there : {A : Type 0} {P : A → Type 0} (before : List A) (a : A) (after : List A) → Every P (before ++ a ∷ after) → P a
there before a after e = ((every_first a after).0 ((every_append before (a ∷ after)).0 e).1).0

-- an item of the one book and that of the other, wherever they stand, by the words at the place
abbrev pub CorrectedPlaced : (xs ys : List ℕ) (k : ℕ) → Placed → Placed → Type 0
CorrectedPlaced xs ys k p q = Corrected (word xs k) (word ys k) (role_at xs k) p.item q.item

pub record CorrectedBook (xs ys : List ℕ) (k : ℕ) : Type 0 where
  pub head : head_of xs ≡ head_of ys
  pub items : OneOf (CorrectedPlaced xs ys k) (items_of xs).records (items_of ys).records

-- the roles of the words before the items
abbrev front_roles : List ℕ → List Role
front_roles ws = replicate (protections_of ws).place (other outside)

front_length : (ws : List ℕ) → length (front_roles ws) ≡ (protections_of ws).place
front_length ws = length-replicate (protections_of ws).place (other outside)

module _ {xs ys : List ℕ} {k : ℕ} (o : OneAmount xs ys k) where
  -- the item in which it stands
  placed_corrected : (at : ℕ) (p q : Placed) (next : ℕ) → at ≤ k → PlacedOther xs ys k at p q next → Allowed (drop at xs) p.item → Allowed (drop at ys) q.item
      → spoken_of (role_in (placed_roles p) (k - at)) ≡ true → Corrected (word xs k) (word ys k) (role_in (placed_roles p) (k - at)) p.item q.item
  placed_corrected at p q next from (PlacedOther.here {i} {j} {n} s) v w h =
      let e : at + (k - at) ≡ k = omega arith in
      rw (get_or-drop at xs (k - at) 0, get_or-drop at ys (k - at) 0, e) at (item_corrected (one_behind at from o) i j n s v w h)

  -- of no word before the items a claim speaks
  among_items : (protections_of xs).place ≡ items_begin xs → spoken_of (role_at xs k) ≡ true → items_begin xs ≤ k
  among_items e h = go (dec_lt k (protections_of xs).place)
    where
      go : Dec (k < (protections_of xs).place) → items_begin xs ≤ k
      go (yes l) =
          let in-front = get_or-append (front_roles xs) (flat_map placed_roles (items_of xs).records) (other outside) k (omega (arith, front_length xs)) in
          absurd (none_there (front_roles xs) (replicate_none (protections_of xs).place outside) k (rw in-front at h))
      go (no l) = omega arith

  -- TWO BOOKS that are read without a fault: the same head, and all items but one the same
  pub book_corrected : (items_of xs).number ≡ 0 → (items_of ys).number ≡ 0 → spoken_of (role_at xs k) ≡ true → CorrectedBook xs ys k
  book_corrected e f h =
      let x = book_cut xs e in
      let t = items_other o e f (among_items x.behind h) in
      let s = t.2 in
      let stands = role_of_other placed_roles (placed_words xs) (front_roles xs) (front_length xs ∙ x.behind) s in
      let v = there s.before s.first s.after (rw s.is_first at (valid_items xs)) in
      let w = there s.before s.second s.after (rw s.is_second at (valid_items ys)) in
      let a = here_allowed xs s.at s.first s.next s.reads_first v in
      let b = here_allowed ys s.at s.second s.next s.reads_second w in
      let c = placed_corrected s.at s.first s.second s.next s.from s.step a b (rw stands at h) in
      record { head = t.0; items = one_of s (rw stands c) }
