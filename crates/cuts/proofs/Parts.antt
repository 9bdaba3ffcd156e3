-- Every book that is read without a fault is written of its parts: its front, the words of its items, its end word. And two books written of
-- parts are equal word for word just where the parts are. Assumes nothing.
use Prim.Native.Nat.{ℕ, ◌+◌, ◌-◌, ◌*◌, ◌≤◌}
use mathlib.Core.Path.{◌≡◌, refl, sym, ◌∙◌, ap}
use mathlib.Core.List.Forall₂
use mathlib.Core.List.{List, [], ◌∷◌, ◌++◌, map, append_assoc}
use native.Mathlib.Omega.{arith}
use lib.ListN.{length, take, drop, length-append, take-append-drop}
use lib.Seq.{take-append_seam, drop-append_seam, get_or-append-add, get_or-append_seam, drop-drop, drop-cons, drop-length, length-take-le, take-take}
use Rattle.rules.specs.Word.{word, kind_of, payload_of}
use Rattle.rules.specs.Book.{Head, Protection, Item, Placed}
use Rattle.rules.specs.Read.{first_record, head_of, protections_of, items_of}
use Rattle.cuts.proofs.Chains.{Chain, chain_onward}
use Rattle.cuts.proofs.Cutting.{ItemHere, items_begin, here_onward, book_cut}
use Rattle.cuts.proofs.Moved.{Stretch}
use Rattle.cuts.proofs.Local.{stay, first_words}
use Rattle.cuts.proofs.OneItem.{OneItem, item_alone}
use Rattle.cuts.proofs.Changed.{head_same, protections_same}
use Rattle.cuts.proofs.Written.{joined, book_of, Reading, BookParts, placed_from, behind_words, written_head, written_items}

-- ---- the parts of a book

-- its head and its protections
abbrev pub front_of : List ℕ → List ℕ
front_of ws = take (items_begin ws) ws

-- the words of an item
abbrev pub words_of : List ℕ → Placed → List ℕ
words_of ws p = take (p.end - p.begin) (drop p.begin ws)

-- and the item without its place
abbrev pub item_in : Placed → Item
item_in p = p.item

-- one item: its words, and what is left behind them
pub one_part : (ws : List ℕ) (at : ℕ) (p : Placed) (next : ℕ) → ItemHere ws at p next → OneItem (words_of ws p) p.item × (drop at ws ≡ words_of ws p ++ drop next ws)
one_part ws at p next (ItemHere.here {i} {n} r) =
    let m : at + n - at ≡ n = omega arith in
    rw m (item_alone n i (drop at ws) r, sym (take-append-drop n (drop at ws)) ∙ ap (λ (v : List ℕ). take n (drop at ws) ++ v) (drop-drop n at ws))

-- the words from a place on are those of these items, and then those from another place on
pub record Parts (ws : List ℕ) (at : ℕ) (l : List Placed) (stop : ℕ) : Type 0 where
  pub reading : Reading (map (words_of ws) l) (map item_in l)
  pub words : drop at ws ≡ joined (map (words_of ws) l) ++ drop stop ws

chain_parts : (ws : List ℕ) {at stop : ℕ} {l : List Placed} → Chain (ItemHere ws) at l stop → Parts ws at l stop
chain_parts ws Chain.done = record { reading = Forall₂.nil; words = refl }
chain_parts ws (Chain.then {at} {next} {stop} {a = p} {l} r c) =
    let o = one_part ws at p next r in
    let q = chain_parts ws c in
    record {
      reading = Forall₂.cons o.0 q.reading;
      words = o.1 ∙ ap (λ (v : List ℕ). words_of ws p ++ v) q.words ∙ sym (append_assoc (words_of ws p) (joined (map (words_of ws) l)) (drop stop ws));
    }

-- the words of all items
abbrev pub parts_of : List ℕ → List (List ℕ)
parts_of ws = map (words_of ws) (items_of ws).records

-- and its end word
abbrev pub end_of : List ℕ → ℕ
end_of ws = word ws (items_of ws).place

module _ (ws : List ℕ) (e : (items_of ws).number ≡ 0) where
  begin_within : items_begin ws ≤ (items_of ws).place
  begin_within = omega (arith, chain_onward (λ at p next h. (here_onward ws at p next h).0) (book_cut ws e).items)

  front_long : length (front_of ws) ≡ items_begin ws
  front_long = length-take-le (items_begin ws) ws (omega (arith, begin_within, (book_cut ws e).end.last))

  front_same : Stretch stay ws (front_of ws) 0 (items_begin ws)
  front_same = first_words (items_begin ws) ws (front_of ws) (omega (arith, begin_within, (book_cut ws e).end.last)) (sym (take-take (items_begin ws) (items_begin ws) ws (omega arith)))

  front_head : head_of ws ≡ head_of (front_of ws)
  front_head = head_same ws (front_of ws) (items_begin ws) front_same (omega arith)

  last_word : drop (items_of ws).place ws ≡ end_of ws ∷ []
  last_word =
      let n = (book_cut ws e).end.last in
      drop-cons ws (items_of ws).place 0 (omega arith) ∙ ap (λ (v : List ℕ). end_of ws ∷ v) (ap (λ (k : ℕ). drop k ws) (sym n) ∙ drop-length ws)

  -- A BOOK THAT IS READ WITHOUT A FAULT is written of its parts,
  pub book_written : ws ≡ book_of (front_of ws) (parts_of ws) (end_of ws)
  book_written =
      sym (take-append-drop (items_begin ws) ws)
      ∙ ap (λ (v : List ℕ). front_of ws ++ v) ((chain_parts ws (book_cut ws e).items).words ∙ ap (λ (v : List ℕ). joined (parts_of ws) ++ v) last_word)

  -- and they are such parts
  pub book_parts : BookParts (front_of ws) (protections_of ws).records (parts_of ws) (map item_in (items_of ws).records) (end_of ws)
  book_parts = record {
    front_good = record {
      long = front_long ∙ ap (λ (h : Head). first_record + 4 * h.protections) front_head;
      many = (book_cut ws e).many ∙ ap (λ (h : Head). h.protections) front_head;
      protections = rw front_long (protections_same ws (front_of ws) (items_begin ws) front_same (omega arith) (omega arith) (book_cut ws e).protections);
    };
    reading = (chain_parts ws (book_cut ws e).items).reading;
    end_good = record { of = (book_cut ws e).end.of; counts = (book_cut ws e).end.counts ∙ count };
  }
    where
      count : (items_of ws).place ≡ length (front_of ws) + length (joined (parts_of ws))
      count =
          omega (arith, (book_cut ws e).end.last, ap length book_written, length-append (front_of ws) (joined (parts_of ws) ++ (end_of ws ∷ [])), length-append (joined (parts_of ws)) (end_of ws ∷ []))

-- ---- two books of parts

-- the parts are told by the words
placed_words : (ws end : List ℕ) {l : List (List ℕ)} {m : List Item} → Reading l m → (at : ℕ) → drop at ws ≡ joined l ++ end → map (words_of ws) (placed_from at l m) ≡ l
placed_words ws end Forall₂.nil at e = refl
placed_words ws end (Forall₂.cons {a = w} {b = i} {l₁ = l} {l₂ = m} o r) at e =
    let s : drop at ws ≡ w ++ (joined l ++ end) = e ∙ append_assoc w (joined l) end in
    let n : at + length w - at ≡ length w = omega arith in
    let one : take (at + length w - at) (drop at ws) ≡ w = rw (n, s) (take-append_seam w (joined l ++ end)) in
    rw (one, placed_words ws end r (at + length w) (behind_words ws w _ at s))

module _ {front : List ℕ} {ps : List Protection} {items : List (List ℕ)} {is : List Item} {end : ℕ} (b : BookParts front ps items is end) where
  -- a book written of parts has just these parts
  pub parts_back : parts_of (book_of front items end) ≡ items
  parts_back =
      rw (written_items b)
      (placed_words (book_of front items end) (end ∷ []) b.reading (length front) (drop-append_seam front (joined items ++ (end ∷ []))))

  pub front_back : front_of (book_of front items end) ≡ front
  front_back =
      rw (← written_head b, ← b.front_good.long)
      (take-append_seam front (joined items ++ (end ∷ [])))

  pub end_back : end_of (book_of front items end) ≡ end
  end_back = rw (written_items b) (get_or-append-add front (joined items ++ (end ∷ [])) (length (joined items)) 0 ∙ get_or-append_seam (joined items) end [] 0)

-- TWO BOOKS OF PARTS are equal just where the parts are
module _ {front front' : List ℕ} {ps ps' : List Protection} {items items' : List (List ℕ)} {is is' : List Item} {end end' : ℕ}
    (b : BookParts front ps items is end) (c : BookParts front' ps' items' is' end') where
  -- equal books have equal parts,
  pub same_parts : book_of front items end ≡ book_of front' items' end' → (front ≡ front') × (items ≡ items')
  same_parts e = (sym (front_back b) ∙ ap front_of e ∙ front_back c, sym (parts_back b) ∙ ap parts_of e ∙ parts_back c)

  -- and books of equal parts are equal: the end word is told by the count
  pub same_book : front ≡ front' → items ≡ items' → book_of front items end ≡ book_of front' items' end'
  same_book f g =
      let n : end ≡ end' = one_end end end' (b.end_good.of ∙ sym c.end_good.of) (b.end_good.counts ∙ rw (f, g) (sym c.end_good.counts)) in
      rw (f, g, n)
    where
      -- a word is its kind and its payload
      one_end : (v w : ℕ) → kind_of v ≡ kind_of w → payload_of v ≡ payload_of w → v ≡ w
      one_end v w k p = omega arith
