-- How a book that is read without a fault is cut: b protections of four words behind the head, then items, each where the one before it ends,
-- then the end word, which is the last. Assumes nothing.
use Prim.Native.Nat.{ℕ, zero, suc, ◌+◌, ◌≤◌, ◌<◌}
use mathlib.Core.Path.{◌≡◌, refl, sym, ◌∙◌, ap}
use mathlib.Core.Bool.{Bool, false, not, ◌||◌, cond}
use mathlib.Core.List.{List, ◌∷◌, ◌++◌}
use native.Mathlib.Omega.{arith}
use borrow.Author.Tests.{eqb-true, eqb-false, eq-eqb, ne_eqb, not-false, lt-leb, leb-false}
use lib.Dec.{eqb, leb}
use lib.ListN.{length, drop, length-drop}
use Rattle.rules.specs.declared.Entry.{Entry}
use Rattle.rules.specs.Word.{word, kind_of, payload_of}
use Rattle.rules.specs.Book.{Protection, Item, asset, derivatives, financing, off_balance, Placed}
use Rattle.rules.specs.Run.{Turn, over, bad, some, run_from, sound}
use Rattle.rules.specs.Faults.{cause}
use Rattle.rules.specs.Read.{head_of, first_record, protection_turn, item_of, placed, end_fault, item_turn, protections_of, items_of}
use Rattle.rules.specs.Filing.{accepted, outcome_of}
use Rattle.rules.proofs.Lists.{or_left, or_right}
use Rattle.laws.proofs.Accepted.{accepted_is}
use Rattle.laws.proofs.Protections.{no_fault_before, protections_count}
use Rattle.laws.proofs.Records.{head_word_lem}
use Rattle.laws.proofs.Valid.{cause_none}
pub use Rattle.cuts.proofs.ItemsBegin.{items_begin}
use Rattle.cuts.proofs.Chains.{Chain, View, sure_run, chain_split, chain_onward, chain_even, chain_run, chain_run_all, run_chain, run_cut, seen_onward}
use Rattle.cuts.proofs.Grammar.{seen_if}
use Rattle.cuts.proofs.Records.{ItemRead, item_view, item_made, item_onward, ProtectionRead, protection_view, protection_made}

-- an item that begins at a place of the book, read in words of its own
pub data ItemHere (ws : List ℕ) (at : ℕ) : Placed → ℕ → Type 0 where
  here : {i : Item} {n : ℕ} → ItemRead (drop at ws) i n → ItemHere ws at (record { begin = at; end = at + n; item = i }) (at + n)

-- the end word, which counts the words before it and is the last
pub record EndHere (ws : List ℕ) (at : ℕ) : Type 0 where
  pub of : kind_of (word ws at) ≡ 15
  pub counts : payload_of (word ws at) ≡ at
  pub last : length ws ≡ suc at

-- ---- the kind of an item's first word

abbrev pub kind_of_item : Item → ℕ
kind_of_item (asset a) = 2
kind_of_item (derivatives s) = 4
kind_of_item (financing s) = 8
kind_of_item (off_balance o) = 10

-- one of these
abbrev pub is_item : ℕ → Bool
is_item kind = eqb kind 2 || eqb kind 4 || eqb kind 8 || eqb kind 10

-- the first word is of the kind that is read: in words of the item's own,
pub item_kind : (ws : List ℕ) (i : Item) (n : ℕ) → ItemRead ws i n → kind_of (word ws 0) ≡ kind_of_item i
item_kind ws i n (ItemRead.of_asset w) = w.of
item_kind ws i n (ItemRead.for_derivatives w c) = w.of
item_kind ws i n (ItemRead.for_financing w c) = w.of
item_kind ws i n (ItemRead.for_off_balance w) = w.of

-- and in the book
pub here_kind : (ws : List ℕ) (at : ℕ) (p : Placed) (next : ℕ) → ItemHere ws at p next → kind_of (word ws at) ≡ kind_of_item p.item
here_kind ws at p next (ItemHere.here {i} {n} r) = ap kind_of (sym (head_word_lem ws at)) ∙ item_kind (drop at ws) i n r

-- what a test says of these kinds it says of every item's
pub test_item : (test : ℕ → Bool) (b : Bool) → test 2 ≡ b → test 4 ≡ b → test 8 ≡ b → test 10 ≡ b → (i : Item) → test (kind_of_item i) ≡ b
test_item test b p q r s (asset a) = p
test_item test b p q r s (derivatives d) = q
test_item test b p q r s (financing f) = r
test_item test b p q r s (off_balance o) = s

-- an item's first word is no end word
pub item_not_end : (ws : List ℕ) (at : ℕ) (p : Placed) (next : ℕ) → ItemHere ws at p next → kind_of (word ws at) ≡ 15 → ⊥
item_not_end ws at p next h e = eqb-false (kind_of_item p.item) 15 (test_item (λ k. eqb k 15) false refl refl refl refl p.item) (sym (here_kind ws at p next h) ∙ e)

-- ---- what stands at a place behind the protections

module _ (ws : List ℕ) (at : ℕ) where
  abbrev item_tests : (missing ends : Bool) → Turn Placed
  item_tests missing ends = cond missing (bad 14 (length ws)) (cond ends (sound (end_fault ws at) at over) (placed at (item_of (drop at ws))))

  book_turn : item_turn ws at ≡ item_tests (leb (length ws) at) (eqb (kind_of (word ws at)) 15)
  unfolding item_turn
  book_turn = refl

  end_view : kind_of (word ws at) ≡ 15 → View (length ws) at (ItemHere ws at) (EndHere ws at) (sound (end_fault ws at) at over)
  unfolding end_fault
  end_view k = go (end_fault ws at) refl
    where
      go : (f : ℕ) → end_fault ws at ≡ f → View (length ws) at (ItemHere ws at) (EndHere ws at) (sound f at over)
      go zero e =
          let c = (cause_none 13 _ 0 e).0 in
          View.ends (record {
            of = k;
            counts = eqb-true _ at (not-false _ (or_left _ _ c));
            last = eqb-true _ _ (not-false _ (or_right (not (eqb (payload_of (word ws at)) at)) _ c));
          })
      go (suc f) e = View.faulty

  placed_view : at < length ws → (t : Turn Item) → View (length (drop at ws)) 0 (ItemRead (drop at ws)) ⊥ t → View (length ws) at (ItemHere ws at) (EndHere ws at) (placed at t)
  placed_view h t (View.ends o) = absurd o
  placed_view h t View.faulty = View.faulty
  placed_view h t View.broken = View.broken
  placed_view h t (View.one r l m) = View.one (ItemHere.here r) (omega arith) (omega (arith, length-drop at ws))

  book_view : View (length ws) at (ItemHere ws at) (EndHere ws at) (item_turn ws at)
  book_view =
      rw book_turn
      (seen_if ws at _ _ (leb (length ws) at) _ _ (λ _. View.faulty)
      (λ l. seen_if ws at _ _ (eqb (kind_of (word ws at)) 15) _ _
      (λ e. end_view (eqb-true _ 15 e))
      (λ _. placed_view (leb-false _ _ l) (item_of (drop at ws)) (item_view (drop at ws)))))

  -- an item that stands at a place is what is read there
  pub here_made : (p : Placed) (next : ℕ) → ItemHere ws at p next → item_turn ws at ≡ some p 0 next
  here_made p next (ItemHere.here {i} {n} r) =
      let o = item_onward (drop at ws) i n r in
      let other = ne_eqb (kind_of (word ws at)) 15 (item_not_end ws at _ _ (ItemHere.here r)) in
      book_turn ∙ rw (lt-leb (length ws) at (omega (arith, length-drop at ws)), other, item_made (drop at ws) i n r)

  end_made : EndHere ws at → item_turn ws at ≡ over
  unfolding end_fault cause
  end_made h = book_turn ∙ rw (lt-leb (length ws) at (omega (arith, h.last)), h.of, eq-eqb _ at h.counts, eq-eqb _ _ h.last)

-- it says where it stands
pub here_places : (ws : List ℕ) (at : ℕ) (p : Placed) (next : ℕ) → ItemHere ws at p next → (p.begin ≡ at) × (p.end ≡ next)
here_places ws at p next (ItemHere.here r) = (refl, refl)

-- it takes up at least a word, and its words are all there
pub here_onward : (ws : List ℕ) (at : ℕ) (p : Placed) (next : ℕ) → ItemHere ws at p next → (at < next) × (next ≤ length ws)
here_onward ws = seen_onward (length ws) (item_turn ws) (book_view ws) (here_made ws)

-- ---- the whole book

pub record CutBook (ws : List ℕ) : Type 0 where
  -- b protections of four words each
  pub protections : Chain (ProtectionRead ws) first_record (protections_of ws).records (items_begin ws)
  pub many : length (protections_of ws).records ≡ (head_of ws).protections
  pub behind : (protections_of ws).place ≡ items_begin ws
  -- items without a gap
  pub items : Chain (ItemHere ws) (items_begin ws) (items_of ws).records (items_of ws).place
  -- the end word
  pub end : EndHere ws (items_of ws).place

four : (ws : List ℕ) (at : ℕ) (p : Protection) (next : ℕ) → ProtectionRead ws at p next → next ≡ at + 4
four ws at p next (ProtectionRead.one w) = refl

-- THE CUT: a book that is read without a fault
pub book_cut : (ws : List ℕ) → (items_of ws).number ≡ 0 → CutBook ws
unfolding items_of protections_of
book_cut ws e =
    let z = no_fault_before ws e in
    let c = run_chain (length ws) (protection_turn ws) (protection_view ws) (head_of ws).protections first_record z in
    let m = protections_count ws e in
    let s : (protections_of ws).place ≡ items_begin ws = chain_even 4 (four ws) c ∙ rw m in
    let t : items_of ws ≡ run_from (item_turn ws) (suc (length ws)) (protections_of ws).place = rw z in
    let i = run_cut (length ws) (item_turn ws) (book_view ws) (protections_of ws).place (rw t at e) in
    record { protections = rw s at c; many = m; behind = s; items = rw (t, ← s) i.chain; end = rw t i.last }

-- an accepted book is read without a fault
pub accepted_cut : (ws : List ℕ) (rows entries : ℕ) (items : List Placed) (left : List Entry) → outcome_of ws rows entries ≡ accepted items left → CutBook ws
accepted_cut ws rows entries items left e = book_cut ws (accepted_is ws rows entries items left e).reading.number

-- ONE ITEM of such a book is read where it says that it stands, behind the protections and before the end
pub record StandsIn (ws : List ℕ) (p : Placed) : Type 0 where
  pub here : ItemHere ws p.begin p p.end
  pub from : items_begin ws ≤ p.begin
  pub to : p.end ≤ (items_of ws).place

pub item_stands : (ws : List ℕ) → (items_of ws).number ≡ 0 → (l : List Placed) (p : Placed) (m : List Placed) → (items_of ws).records ≡ l ++ p ∷ m → StandsIn ws p
item_stands ws e l p m is =
    let t = chain_split l (rw is at (book_cut ws e).items) in
    let w = here_places ws t.begin p t.end t.one in
    let onward : (at : ℕ) (q : Placed) (next : ℕ) → ItemHere ws at q next → at < next = λ at q next h. (here_onward ws at q next h).0 in
    record { here = own p t.one; from = omega (arith, chain_onward onward t.before); to = omega (arith, chain_onward onward t.after) }
  where
    own : (q : Placed) {at next : ℕ} → ItemHere ws at q next → ItemHere ws q.begin q q.end
    own q (ItemHere.here r) = ItemHere.here r

-- AND BACK: words that are cut so are read so
module _ (ws : List ℕ) (ps : List Protection) (at : ℕ) (l : List Placed) (stop : ℕ) (many : length ps ≡ (head_of ws).protections)
    (protections : Chain (ProtectionRead ws) first_record ps at) (items : Chain (ItemHere ws) at l stop) (end : EndHere ws stop) where
  pub cut_protections : protections_of ws ≡ sure_run ps at
  unfolding protections_of
  cut_protections = rw (← many) (chain_run_all (protection_turn ws) (protection_made ws) protections)

  pub cut_items : items_of ws ≡ sure_run l stop
  unfolding items_of
  cut_items =
      let o = chain_onward (λ i p next h. (here_onward ws i p next h).0) items in
      rw cut_protections (chain_run (item_turn ws) (here_made ws) items (end_made ws stop end) (suc (length ws)) (omega (arith, end.last)))
