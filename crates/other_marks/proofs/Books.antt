-- An accepted book in which one derivative set has other marks: it is accepted with the same entries left, and row 21 is that of the other items
-- and of the set under these marks. Assumes nothing.
use Prim.Native.Nat.{ℕ, ◌+◌, ◌-◌, ◌%◌, ◌≤◌, ◌<◌}
use mathlib.Core.Path.{◌≡◌, refl, sym, ◌∙◌, ap}
use mathlib.Core.List.{List, [], ◌∷◌, ◌++◌}
use native.Mathlib.Omega.{arith}
use lib.IntN.{pos}
use lib.ListN.{length, drop, set, length-set, length-drop}
use lib.Seq.{get_or-set_same, get_or-set_other, set-get_or, get_or-drop}
use Rattle.rules.specs.declared.Entry.{Entry}
use Rattle.rules.specs.Word.{word}
use Rattle.rules.specs.Book.{DerivativeSet, Item, derivatives, Placed}
use Rattle.rules.specs.Read.{items_of}
use Rattle.rules.specs.Register.{draws_in, draws_over}
use Rattle.rules.specs.Rows.{sum_over}
use Rattle.rules.proofs.Lists.{total_append}
use Rattle.laws.specs.ReadAs.{ReadAs}
use Rattle.laws.proofs.Accepted.{accepted_is, is_accepted}
use Rattle.laws.proofs.ExposureSum.{exposure_is_sum}
use Rattle.laws.proofs.Records.{head_word_lem}
use Rattle.cuts.proofs.Cutting.{ItemHere, EndHere, StandsIn, item_stands, here_onward, book_cut}
use Rattle.cuts.proofs.Moved.{Stretch}
use Rattle.cuts.proofs.Local.{stay, map_same}
use Rattle.cuts.proofs.Changed.{moved_placed, Changed, changed_book, changed_read}
use Rattle.other_marks.specs.Marked.{settings, with_marks, book_with, set_with, placed_with}
use Rattle.other_marks.specs.Claims.{SetAmong, LikeFiled, AcceptedAlike, FiledIsOne}
use Rattle.other_marks.proofs.Words.{filed_marks}
use Rattle.other_marks.proofs.Items.{item_marked, item_filed}

-- ---- the words

module _ (ws : List ℕ) (head m : ℕ) (h : head < length ws) where
  pub marked_long : length (book_with ws head m) ≡ length ws
  marked_long = length-set ws head (with_marks (word ws head) m)

  marked_word : word (book_with ws head m) head ≡ with_marks (word ws head) m
  marked_word = get_or-set_same ws head (with_marks (word ws head) m) 0 h

  pub other_word : (i : ℕ) → (i ≡ head → ⊥) → word ws i ≡ word (book_with ws head m) i
  other_word i n = sym (get_or-set_other ws head i (with_marks (word ws head) m) 0 n)

  -- a stretch that the head does not stand in
  untouched : (from to : ℕ) → to ≤ length ws → (from ≤ head → to ≤ head) → Stretch stay ws (book_with ws head m) from to
  untouched from to l n = record {
    within = l;
    there = omega (arith, marked_long);
    even = λ at k i. refl;
    words = λ i j k. other_word i (λ z. omega (arith, n (omega arith)));
  }

-- ---- the item

module _ (ws : List ℕ) (m : ℕ) (l : m < settings) (at : ℕ) (h : at < length ws) where
  abbrev ys : List ℕ
  ys = book_with ws at m

  long : length (drop at ws) ≡ length (drop at ys)
  long = length-drop at ws ∙ ap (λ (k : ℕ). k - at) (sym (marked_long ws at m h)) ∙ sym (length-drop at ys)

  first : word (drop at ys) 0 ≡ with_marks (word (drop at ws) 0) m
  first = head_word_lem ys at ∙ marked_word ws at m h ∙ ap (λ (w : ℕ). with_marks w m) (sym (head_word_lem ws at))

  others : (i : ℕ) → 0 < i → word (drop at ws) i ≡ word (drop at ys) i
  others i z = get_or-drop at ws i 0 ∙ other_word ws at m h (at + i) (λ q. omega arith) ∙ sym (get_or-drop at ys i 0)

  here_marked : (p : Placed) (next : ℕ) (s : DerivativeSet) → p.item ≡ derivatives s → ItemHere ws at p next → ItemHere ys at (placed_with (derivatives (set_with m s)) p) next
  here_marked p next s e (ItemHere.here {i} {n} r) = ItemHere.here (item_marked (drop at ws) (drop at ys) m l long first others s n (rw e at r))

-- ---- the covers: they hang on no mark

draws_marked : (front : List Placed) (p : Placed) (back : List Placed) (i : Item) → draws_in p.begin i ≡ draws_in p.begin p.item
    → draws_over (front ++ placed_with i p ∷ back) ≡ draws_over (front ++ p ∷ back)
unfolding draws_over
draws_marked [] p back i e = rw e
draws_marked (q ∷ front) p back i e = rw (draws_marked front p back i e)

-- ---- the book

pub sum_among : (f : Item → ℕ) (front : List Placed) (q : Placed) (back : List Placed) → sum_over f (front ++ q ∷ back) ≡ sum_over f front + sum_over f back + f q.item
sum_among f front q back = omega (arith, total_append (λ (p : Placed). f p.item) front (q ∷ back))

module _ (ws : List ℕ) (rows entries : ℕ) (left : List Entry) (front : List Placed) (p : Placed) (s : DerivativeSet) (back : List Placed)
    (a : SetAmong ws rows entries left front p s back) where
  r : ReadAs ws rows entries (front ++ p ∷ back)
  r = (accepted_is ws rows entries (front ++ p ∷ back) left a.accepts).reading

  pub stands : StandsIn ws p
  stands = item_stands ws r.number front p back r.read

  last : EndHere ws (items_of ws).place
  last = (book_cut ws r.number).end

  onward : p.begin < p.end
  onward = (here_onward ws p.begin p p.end stands.here).0

  pub begins_within : p.begin < length ws
  begins_within = omega (arith, onward, stands.to, last.last)

  changed : (m : ℕ) → m < settings → Changed stay ws (book_with ws p.begin m) p (placed_with (derivatives (set_with m s)) p)
  changed m l =
      let e = other_word ws p.begin m begins_within (items_of ws).place (λ z. omega (arith, onward, stands.to)) in
      record {
        front = untouched ws p.begin m begins_within 0 p.begin (omega (arith, begins_within)) (λ h. omega arith);
        other = here_marked ws m l p.begin begins_within p p.end s a.set stands.here;
        back = untouched ws p.begin m begins_within p.end (items_of ws).place (omega (arith, last.last)) (λ h. omega (arith, onward));
        end = record { of = rw (← e) last.of; counts = rw (← e) last.counts; last = marked_long ws p.begin m begins_within ∙ last.last };
      }

  pub accepted_alike : (m : ℕ) → m < settings → LikeFiled ws rows entries left front p s back m
  accepted_alike m l =
      let c = changed m l in
      let b = changed_book ws (book_with ws p.begin m) front p _ back r.number r.read c in
      let n = marked_long ws p.begin m begins_within in
      let read = changed_read ws (book_with ws p.begin m) rows entries front p _ back r c (omega (arith, r.short)) in
      let here = map_same (moved_placed stay) (λ q. refl) back in
      let fits = (accepted_is ws rows entries (front ++ p ∷ back) left a.accepts).fits in
      let draws = draws_marked front p back (derivatives (set_with m s)) (rw a.set) in
      let accepts = is_accepted (book_with ws p.begin m) rows entries (front ++ placed_with (derivatives (set_with m s)) p ∷ back) left
      (record { reading = rw here at read; fits = rw (← b.1, draws) fits }) in
      record {
        head = sym b.0;
        accepts = accepts;
        exposure = rw b.0 (exposure_is_sum (book_with ws p.begin m) rows entries _ left accepts ∙ ap pos (sum_among _ front _ back));
      }

  set_filed : (q : Placed) {at next : ℕ} → q.item ≡ derivatives s → ItemHere ws at q next → set_with (word ws at % settings) s ≡ s
  set_filed q {at} e (ItemHere.here {n = n} h) = rw (← head_word_lem ws at) (item_filed (drop at ws) s n (rw e at h))

  pub filed_is_one : (m : ℕ) × ((m < settings) × (book_with ws p.begin m ≡ ws) × (set_with m s ≡ s))
  filed_is_one =
      let w = word ws p.begin in
      let f = filed_marks w in
      (w % settings, (f.0, ap (set ws p.begin) f.1 ∙ set-get_or ws p.begin 0, set_filed p a.set stands.here))

pub accepted_alike_holds : AcceptedAlike
accepted_alike_holds = accepted_alike

pub filed_is_one_holds : FiledIsOne
filed_is_one_holds = filed_is_one
