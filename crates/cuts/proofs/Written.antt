-- A book written anew reads back: a front of head and protections, the words of items that were read from any books, and an end word with the
-- right count are a book that is cut into just these items. Assumes nothing.
use Prim.Native.Nat.{ℕ, ◌+◌, ◌^◌, ◌≤◌}
use mathlib.Core.Path.{◌≡◌, refl, sym, ◌∙◌, ap}
use mathlib.Core.Bool.{false}
use mathlib.Core.List.{List, [], ◌∷◌, ◌++◌, append_assoc, Forall₂}
use native.Mathlib.Omega.{arith}
use native.Mathlib.Nat.{add-zero, add_assoc}
use lib.ListN.{length, drop, length-append}
use lib.Seq.{get_or-append-add, get_or-append_seam, take-length, take-append_seam, drop-append_seam, drop-drop}
use Rattle.rules.specs.Word.{word, kind_of}
use Rattle.rules.specs.Book.{Head, Protection, Item, Placed}
use Rattle.rules.specs.Read.{first_record, head_faulty, date_faulty, head_of, protections_of, items_of}
use Rattle.laws.specs.ReadAs.{ReadAs}
use Rattle.cuts.proofs.Chains.{Chain, sure_run}
use Rattle.cuts.proofs.Records.{NoneOf, runs_on, ItemRead, item_onward, ProtectionRead}
use Rattle.cuts.proofs.Cutting.{ItemHere, EndHere, item_kind, test_item, cut_protections, cut_items}
use Rattle.cuts.proofs.Moved.{Stretch}
use Rattle.cuts.proofs.Local.{stay, first_words}
use Rattle.cuts.proofs.OneItem.{OneItem, item_before}
pub use Rattle.cuts.proofs.BookParts.{joined, book_of, Front, Reading, EndWord, BookParts}
use Rattle.cuts.proofs.Changed.{head_same, head_faulty_same, date_faulty_same, protections_same}

-- the items from a place on, each as long as its words
abbrev pub placed_from : ℕ → List (List ℕ) → List Item → List Placed
placed_from at [] l = []
placed_from at (w ∷ ws) [] = []
placed_from at (w ∷ ws) (i ∷ l) = record { begin = at; end = at + length w; item = i } ∷ placed_from (at + length w) ws l

-- ---- it reads back

-- what follows an item begins with an item or the end, so it does not go on with it
follows : {ws : List (List ℕ)} {l : List Item} → Reading ws l → (end : ℕ) → kind_of end ≡ 15 → NoneOf runs_on (joined ws ++ (end ∷ [])) 0
follows Forall₂.nil end e = rw e
follows (Forall₂.cons {a = w} {b = i} {l₁ = ws} o r) end e = go w o
  where
    go : (v : List ℕ) → OneItem v i → NoneOf runs_on ((v ++ joined ws) ++ (end ∷ [])) 0
    go [] q = let z : ⊥ = omega (arith, (item_onward [] i 0 q).0) in absurd z
    go (x ∷ v) q = rw (item_kind (x ∷ v) i (length (x ∷ v)) q) (test_item runs_on false refl refl refl refl i)

-- behind words that stand at a place
pub behind_words : (ws w rest : List ℕ) (at : ℕ) → drop at ws ≡ w ++ rest → drop (at + length w) ws ≡ rest
behind_words ws w rest at e = sym (drop-drop (length w) at ws) ∙ ap (drop (length w)) e ∙ drop-append_seam w rest

joined_chain : (ws : List ℕ) (end : ℕ) → kind_of end ≡ 15 → {l : List (List ℕ)} {m : List Item} → Reading l m → (at : ℕ) → drop at ws ≡ joined l ++ (end ∷ [])
    → Chain (ItemHere ws) at (placed_from at l m) (at + length (joined l))
joined_chain ws end k Forall₂.nil at e = rw (add-zero at) Chain.done
joined_chain ws end k (Forall₂.cons {a = w} {b = i} {l₁ = l} {l₂ = m} o r) at e =
    let s : drop at ws ≡ w ++ (joined l ++ (end ∷ [])) = e ∙ append_assoc w (joined l) (end ∷ []) in
    let one : ItemRead (drop at ws) i (length w) = rw s (item_before i w (joined l ++ (end ∷ [])) o (follows r end k)) in
    rw (length-append w (joined l), ← add_assoc at (length w) (length (joined l)))
    (Chain.then (ItemHere.here one) (joined_chain ws end k r (at + length w) (behind_words ws w _ at s)))

module _ {front : List ℕ} {ps : List Protection} {items : List (List ℕ)} {is : List Item} {end : ℕ} (b : BookParts front ps items is end) where
  front_same : Stretch stay front (book_of front items end) 0 (length front)
  front_same = first_words (length front) front (book_of front items end) (omega arith) (take-length front ∙ sym (take-append_seam front (joined items ++ (end ∷ []))))

  three : first_record ≤ length front
  three = omega (arith, b.front_good.long)

  -- the head is that of the front
  pub written_head : head_of front ≡ head_of (book_of front items end)
  written_head = head_same front (book_of front items end) (length front) front_same three

  chain_here : Chain (ItemHere (book_of front items end)) (length front) (placed_from (length front) items is) (length front + length (joined items))
  chain_here = joined_chain (book_of front items end) end b.end_good.of b.reading (length front) (drop-append_seam front (joined items ++ (end ∷ [])))

  end_here : EndHere (book_of front items end) (length front + length (joined items))
  end_here = record {
    of = rw there b.end_good.of;
    counts = rw there b.end_good.counts;
    last = omega (arith, length-append front (joined items ++ (end ∷ [])), length-append (joined items) (end ∷ []));
  }
    where
      there : word (book_of front items end) (length front + length (joined items)) ≡ end
      there = get_or-append-add front (joined items ++ (end ∷ [])) (length (joined items)) 0 ∙ get_or-append_seam (joined items) end [] 0

  many_here : length ps ≡ (head_of (book_of front items end)).protections
  many_here = b.front_good.many ∙ ap (λ (h : Head). h.protections) written_head

  protections_here : Chain (ProtectionRead (book_of front items end)) first_record ps (length front)
  protections_here = protections_same front (book_of front items end) (length front) front_same three (omega arith) b.front_good.protections

  -- WRITTEN ANEW IT READS BACK
  pub written_protections : protections_of (book_of front items end) ≡ sure_run ps (length front)
  written_protections = cut_protections (book_of front items end) ps (length front) _ _ many_here protections_here chain_here end_here

  pub written_items : items_of (book_of front items end) ≡ sure_run (placed_from (length front) items is) (length front + length (joined items))
  written_items = cut_items (book_of front items end) ps (length front) _ _ many_here protections_here chain_here end_here

  -- so with rows and entries enough it is read as these, if its front is good and it is not too long
  pub written_read : (rows entries : ℕ) → 22 ≤ rows → length (book_of front items end) ≤ 2 ^ 20 → head_faulty front ≡ false → date_faulty front ≡ false → (head_of front).protections ≤ entries
      → ReadAs (book_of front items end) rows entries (placed_from (length front) items is)
  written_read rows entries enough short head date room = record {
    rows_enough = enough;
    short = short;
    head = sym (head_faulty_same front _ (length front) front_same three) ∙ head;
    date = sym (date_faulty_same front _ (length front) front_same three) ∙ date;
    room = rw (← written_head) room;
    number = rw written_items;
    read = rw written_items;
  }
