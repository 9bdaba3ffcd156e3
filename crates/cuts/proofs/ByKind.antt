-- The items found by their kinds alone: behind the protections a word of kind 2, 4, 8, 10 or 15 is just where an item or the end stands, and one
-- of kind 4 or 8 just where a set stands. Assumes nothing.
use Prim.Native.Nat.{ℕ, ◌+◌, ◌-◌}
use mathlib.Core.Path.{◌≡◌, refl, sym, ◌∙◌}
use mathlib.Core.Bool.{Bool, true, false, ◌||◌, cond}
use mathlib.Core.List.{List, [], ◌∷◌, ◌++◌, map, append-nil, append_cancel_right}
use native.Mathlib.Omega.{arith}
use lib.Dec.{eqb}
use lib.ListN.{length}
use Rattle.rules.specs.Book.{Member, trade, written, basket, Item, asset, derivatives, financing, off_balance, Placed}
use Rattle.rules.specs.Read.{first_record, protections_of, items_of}
use Rattle.cuts.specs.Words.{Shape, Wordwise}
use Rattle.cuts.proofs.Chains.{Chain}
use Rattle.cuts.proofs.Cutting.{ItemHere, kind_of_item, test_item, items_begin, here_places, book_cut}
pub use Rattle.cuts.proofs.Opens.{opens}
use Rattle.cuts.proofs.Lengths.{cover_length, member_length, financing_trade_length, protection_length, placed_length, here_length}
use Rattle.cuts.proofs.Scan.{marked, scan, along}
use Rattle.cuts.proofs.Places.{cover_places, member_places, financing_trade_places, inner_places, placed_places, protection_places, book_places, behind_scan, places_same}

-- where the items of some list begin
abbrev pub begins : List Placed → List ℕ
begins = map (λ (p : Placed). p.begin)

-- those whose kind passes a test, in their order
unfoldable pub picked : (ℕ → Bool) → List Placed → List Placed
picked test [] = []
picked test (p ∷ l) = cond (test (kind_of_item p.item)) (p ∷ picked test l) (picked test l)

-- ---- a test that no amount and no record inside an item passes: a trade, a written credit, a cover, a financing trade, a basket

abbrev pub Outer : (ℕ → Bool) → Type 0
Outer test = (test 0 ≡ false) × (test 5 ≡ false) × (test 6 ≡ false) × (test 7 ≡ false) × (test 9 ≡ false) × (test 11 ≡ false)

module _ {A : Type 0} (size : A → ℕ) (places : ℕ → A → List ℕ) (no : (at : ℕ) (a : A) → places at a ≡ []) where
  along_none : (at : ℕ) (l : List A) → along size places at l ≡ []
  unfolding along
  along_none at [] = refl
  along_none at (a ∷ l) = rw (no at a, along_none (at + size a) l)

module _ (test : ℕ → Bool) (o : Outer test) where
  member_none : (at : ℕ) (m : Member) → member_places test at m ≡ []
  member_none at (trade t) = rw o.1
  member_none at (written w) = rw o.2 (along_none cover_length (cover_places test) (λ at c. rw o.3) (at + 6) w.covers)
  member_none at (basket b) = rw o.5

  -- so none of its places is inside an item
  pub inner_none : (at : ℕ) (i : Item) → inner_places test at i ≡ []
  inner_none at (asset a) = refl
  inner_none at (derivatives s) = along_none member_length (member_places test) member_none (at + 4) s.members
  inner_none at (financing s) = along_none financing_trade_length (financing_trade_places test) (λ at t. rw o.4) (at + 1) s.trades
  inner_none at (off_balance a) = refl

  picked_places : (ws : List ℕ) {at stop : ℕ} {l : List Placed} → Chain (ItemHere ws) at l stop → along placed_length (placed_places test) at l ≡ begins (picked test l)
  unfolding along picked
  picked_places ws Chain.done = refl
  picked_places ws (Chain.then {at} {next} {a = p} {l} h c) =
      rw (inner_none at p.item, append-nil, ← here_length ws at p next h, picked_places ws c, ← (here_places ws at p next h).0) (go (test (kind_of_item p.item)))
    where
      go : (b : Bool) → marked b p.begin ++ begins (picked test l) ≡ begins (cond b (p ∷ picked test l) (picked test l))
      go true = refl
      go false = refl

  -- THE ITEMS OF SOME KINDS: behind the protections the words of these kinds are just the first words of these items, and perhaps the end
  pub picked_by_kind : (ws : List ℕ) → (items_of ws).number ≡ 0
      → scan test ws (items_begin ws) (length ws - items_begin ws) ≡ begins (picked test (items_of ws).records) ++ marked (test 15) (items_of ws).place
  picked_by_kind ws e = behind_scan test o.0 ws e ∙ rw (picked_places ws (book_cut ws e).items)

-- ---- all items and the end

-- none of the kinds of `opens` is inside an item
pub outer : Outer opens
outer = (refl, refl, refl, refl, refl, refl)

opens_all : (l : List Placed) → picked opens l ≡ l
unfolding picked
opens_all [] = refl
opens_all (p ∷ l) = rw (opens_all l, test_item opens true refl refl refl refl p.item)

-- THE ITEMS: behind the protections the words of these kinds are just the first words of the items, and the end
pub items_by_kind : (ws : List ℕ) → (items_of ws).number ≡ 0
    → scan opens ws (items_begin ws) (length ws - items_begin ws) ≡ begins (items_of ws).records ++ ((items_of ws).place ∷ [])
items_by_kind ws e = picked_by_kind opens outer ws e ∙ rw (opens_all (items_of ws).records)

-- in two books of one shape they stand at the same places
pub items_same_places : {xs ys : List ℕ} → Wordwise Shape xs ys → (items_of xs).number ≡ 0 → (items_of ys).number ≡ 0
    → (begins (items_of xs).records ≡ begins (items_of ys).records) × ((items_of xs).place ≡ (items_of ys).place)
items_same_places {xs} {ys} l e f =
    let last : (items_of xs).place ≡ (items_of ys).place = omega (arith, l.long, (book_cut xs e).end.last, (book_cut ys f).end.last) in
    let all = sym (found xs e) ∙ places_same opens refl l e f ∙ found ys f in
    (append_cancel_right _ _ ((items_of ys).place ∷ []) (rw last at all), last)
  where
    found : (ws : List ℕ) → (items_of ws).number ≡ 0 → book_places opens ws ≡ begins (items_of ws).records ++ ((items_of ws).place ∷ [])
    found ws z =
        let none = along_none protection_length (protection_places opens) (λ at p. refl) first_record (protections_of ws).records in
        rw (none, picked_places opens outer ws (book_cut ws z).items, opens_all (items_of ws).records)

-- ---- derivative sets and financing sets

-- their kinds
abbrev pub is_set : ℕ → Bool
is_set kind = eqb kind 4 || eqb kind 8

-- THE SETS: behind the protections the words of these kinds are just the first words of the sets, in their order
pub sets_by_kind : (ws : List ℕ) → (items_of ws).number ≡ 0 → scan is_set ws (items_begin ws) (length ws - items_begin ws) ≡ begins (picked is_set (items_of ws).records)
sets_by_kind ws e = picked_by_kind is_set (refl, refl, refl, refl, refl, refl) ws e ∙ append-nil (begins (picked is_set (items_of ws).records))
