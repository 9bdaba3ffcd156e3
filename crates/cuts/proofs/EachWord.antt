-- Word by word: which words of a book are the first words of its records, which of its items, and which of the records inside one item.
-- Assumes nothing.
use Prim.Native.Nat.{ℕ, suc, ◌-◌, ◌≤◌, ◌<◌}
use mathlib.Core.Path.{◌≡◌, refl}
use mathlib.Core.Logic.{◌⊎◌, inl, inr, ⊎_map}
use mathlib.Core.Bool.{Bool, true, false, not, ◌||◌}
use mathlib.Core.List.Memᴰ
use mathlib.Core.List.{List, [], ◌∷◌, ◌++◌, append_cancel_left, Memᴰ}
use native.Mathlib.Omega.{arith}
use native.Mathlib.Decide.{ℕ_discrete}
use borrow.Author.Tests.{ne_eqb}
use lib.Dec.{eqb}
use lib.ListN.{length}
use Rattle.rules.specs.Word.{word, kind_of}
use Rattle.rules.specs.Book.{Item, asset, derivatives, financing, off_balance, Placed}
use Rattle.rules.specs.Read.{first_record, items_of}
use Rattle.rules.proofs.Lists.{or_true}
use Rattle.cuts.proofs.Chains.{Chain, chain_split}
use Rattle.cuts.proofs.Records.{NoneOf, is_cover, is_member, is_financing_trade, runs_on}
use Rattle.cuts.proofs.Cutting.{ItemHere, EndHere, kind_of_item, here_kind, test_item, here_places, here_onward, items_begin, book_cut}
use Rattle.cuts.proofs.Lengths.{placed_length, here_length}
use Rattle.cuts.proofs.Scan.{marked, scan, in_scan, scan_in}
use Rattle.cuts.proofs.Places.{inner_places, book_places, here_scan, book_scan}
use Rattle.cuts.proofs.ByKind.{begins, inner_none, opens, outer, items_by_kind}

-- any kind but that of amounts
abbrev pub heads : ℕ → Bool
heads kind = not (eqb kind 0)

-- ---- in the book

module _ (ws : List ℕ) (e : (items_of ws).number ≡ 0) where
  -- EVERY RECORD: from the first record on a word of another kind than 0 is just the first word of a record
  pub record_there : (i : ℕ) → first_record ≤ i → i < length ws → (kind_of (word ws i) ≡ 0 → ⊥) → Memᴰ i (book_places heads ws)
  record_there i h l k =
      rw (book_scan heads refl ws e) at (in_scan heads ws (length ws - first_record) first_record i h (omega arith) (rw (ne_eqb (kind_of (word ws i)) 0 k)))

  -- and back
  pub there_record : (i : ℕ) → Memᴰ i (book_places heads ws) → (first_record ≤ i) × (i < length ws) × (kind_of (word ws i) ≡ 0 → ⊥)
  there_record i m =
      let p = scan_in heads ws (length ws - first_record) first_record i (rw (book_scan heads refl ws e) m) in
      (p.0, omega arith, λ z. let q = rw z at p.2 in let y : ◌≡◌ {A = ℕ} 0 1 = cc in omega arith)

  -- EVERY ITEM: behind the protections a word of kind 2, 4, 8, 10 or 15 is just the first word of an item, or the end
  pub item_place : (i : ℕ) → items_begin ws ≤ i → i < length ws → opens (kind_of (word ws i)) ≡ true → Memᴰ i (begins (items_of ws).records ++ ((items_of ws).place ∷ []))
  item_place i h l t = rw (items_by_kind ws e) at (in_scan opens ws (length ws - items_begin ws) (items_begin ws) i h (omega arith) t)

  -- and back
  pub place_item : (i : ℕ) → Memᴰ i (begins (items_of ws).records ++ ((items_of ws).place ∷ [])) → (items_begin ws ≤ i) × (i < length ws) × (opens (kind_of (word ws i)) ≡ true)
  place_item i m =
      let p = scan_in opens ws (length ws - items_begin ws) (items_begin ws) i (rw (items_by_kind ws e) m) in
      (p.0, omega arith, p.2)

  -- behind every item stands an item or the end
  pub item_next : (l : List Placed) (p : Placed) (m : List Placed) → (items_of ws).records ≡ l ++ p ∷ m → opens (kind_of (word ws p.end)) ≡ true
  item_next l p m is =
      let c = book_cut ws e in
      let t = chain_split l (rw is at c.items) in
      rw (here_places ws t.begin p t.end t.one).1 (opening t.after c.end)
    where
      opening : {at stop : ℕ} {l : List Placed} → Chain (ItemHere ws) at l stop → EndHere ws stop → opens (kind_of (word ws at)) ≡ true
      opening Chain.done h = rw h.of
      opening (Chain.then {at} {next} {a = q} h c) z = rw (here_kind ws at q next h) (test_item opens true refl refl refl refl q.item)

-- ---- inside an item, behind its first word

-- the kinds of the records that go on with an item: 5, 6, 7 and 11 in a derivative set, 9 in a financing set
abbrev pub kind_inside : Item → ℕ → Bool
kind_inside (asset a) kind = false
kind_inside (derivatives s) kind = is_cover kind || is_member kind
kind_inside (financing s) kind = is_financing_trade kind
kind_inside (off_balance o) kind = false

own_amount : (i : Item) → kind_inside i 0 ≡ false
own_amount (asset a) = refl
own_amount (derivatives s) = refl
own_amount (financing s) = refl
own_amount (off_balance o) = refl

-- all records inside are of these
own_heads : (at : ℕ) (i : Item) → inner_places (kind_inside i) at i ≡ inner_places heads at i
own_heads at (asset a) = refl
own_heads at (derivatives s) = refl
own_heads at (financing s) = refl
own_heads at (off_balance o) = refl

module _ (ws : List ℕ) (at : ℕ) (p : Placed) (next : ℕ) (h : ItemHere ws at p next) where
  -- for any test that no amount passes: just the records inside whose kind passes
  module _ (test : ℕ → Bool) (none : test 0 ≡ false) where
    inner_scan : scan test ws (suc at) (next - suc at) ≡ inner_places test at p.item
    unfolding scan
    inner_scan =
        let o = here_onward ws at p next h in
        let long : placed_length p ≡ suc (next - suc at) = omega (arith, here_length ws at p next h) in
        append_cancel_left (marked (test (kind_of_item p.item)) at) _ _ (rw (long, here_kind ws at p next h) at (here_scan test none ws at p next h))

    -- a word inside that passes is where such a record stands,
    pub inner_place : (i : ℕ) → at < i → i < next → test (kind_of (word ws i)) ≡ true → Memᴰ i (inner_places test at p.item)
    inner_place i l m t = rw inner_scan at (in_scan test ws (next - suc at) (suc at) i l (omega arith) t)

    -- and back
    pub place_inner : (i : ℕ) → Memᴰ i (inner_places test at p.item) → (at < i) × (i < next) × (test (kind_of (word ws i)) ≡ true)
    place_inner i m = let q = scan_in test ws (next - suc at) (suc at) i (rw inner_scan m) in (q.0, omega arith, q.2)

  -- INSIDE AN ITEM a word of another kind than 0 is just where a member, a cover or a financing trade stands, and is of the item's own kinds
  pub inside_set : (i : ℕ) → at < i → i < next → (kind_of (word ws i) ≡ 0 → ⊥) → Memᴰ i (inner_places heads at p.item)
  inside_set i l m k = inner_place heads refl i l m (rw (ne_eqb _ 0 k))

  -- and back
  pub set_inside : (i : ℕ) → Memᴰ i (inner_places heads at p.item) → (at < i) × (i < next) × (kind_inside p.item (kind_of (word ws i)) ≡ true)
  set_inside i m = place_inner (kind_inside p.item) (own_amount p.item) i (rw (own_heads at p.item) m)

  -- no item and no end begins inside an item, so it ends at the next word of a kind that does
  pub inside_closed : (i : ℕ) → at < i → i < next → NoneOf opens ws i
  inside_closed i l m = go (opens (kind_of (word ws i))) refl
    where
      go : (b : Bool) → opens (kind_of (word ws i)) ≡ b → b ≡ false
      go false e = refl
      go true e = absurd (Memᴰ.not-nil (rw (inner_none opens outer at p.item) at (inner_place opens refl i l m e)))

  -- EACH OTHER WORD inside an item is an amount
  pub inside_own : (i : ℕ) → at < i → i < next → (kind_of (word ws i) ≡ 0) ⊎ (kind_inside p.item (kind_of (word ws i)) ≡ true)
  inside_own i l m = go (ℕ_discrete (kind_of (word ws i)) 0)
    where
      go : Dec (kind_of (word ws i) ≡ 0) → (kind_of (word ws i) ≡ 0) ⊎ (kind_inside p.item (kind_of (word ws i)) ≡ true)
      go (yes z) = inl z
      go (no z) = inr (set_inside i (inside_set i l m z)).2

  -- so of kind 0, 5, 6, 7, 9 or 11
  pub inside : (i : ℕ) → at < i → i < next → (kind_of (word ws i) ≡ 0) ⊎ (runs_on (kind_of (word ws i)) ≡ true)
  inside i l m = ⊎_map (λ z. z) (go p.item (kind_of (word ws i))) (inside_own i l m)
    where
      go : (i : Item) (k : ℕ) → kind_inside i k ≡ true → runs_on k ≡ true
      go (asset a) k e = let z : ◌≡◌ {A = ℕ} 0 1 = cc in absurd (omega arith)
      go (derivatives s) k e = rw e
      go (financing s) k e = rw e (or_true (is_cover k || is_member k))
      go (off_balance o) k e = let z : ◌≡◌ {A = ℕ} 0 1 = cc in absurd (omega arith)
