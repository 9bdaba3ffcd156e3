-- Two books that are cut alike up to a record, that differ in it and go on alike, also at other places: which items and members the second
-- has, with the places behind moved. Assumes nothing.
use Prim.Native.Nat.{ℕ, ◌+◌, ◌^◌, ◌≤◌, ◌<◌}
use mathlib.Core.Path.{◌≡◌, refl, sym, ◌∙◌, ap}
use mathlib.Core.List.{List, ◌∷◌, ◌++◌, map, map-id}
use native.Mathlib.Omega.{arith}
use borrow.Author.Tests.{le-ltb}
use lib.ListN.{length, drop, length-drop}
use lib.Seq.{get_or-drop}
use Rattle.rules.specs.Word.{word}
use Rattle.rules.specs.Book.{Head, Protection, Member, Placed}
use Rattle.rules.specs.Read.{first_record, head_faulty, date_faulty, reporting_date, head_of, protections_of, items_of}
use Rattle.laws.specs.ReadAs.{ReadAs}
use Rattle.cuts.proofs.Chains.{Chain, sure_run, chain_append, chain_split, chain_onward}
use Rattle.cuts.proofs.Records.{NoneOf, is_cover, MemberRead, member_onward, ProtectionRead, protection_onward}
use Rattle.cuts.proofs.Cutting.{ItemHere, EndHere, here_places, here_onward, book_cut, item_stands, cut_protections, cut_items}
pub use Rattle.cuts.proofs.MovedPlaces.{moved_placed}
use Rattle.cuts.proofs.Moved.{moved_member, Stretch, Follows, word_on, room_on, none_moved, chain_moved, protection_moved, member_moved}
use Rattle.cuts.proofs.Local.{stay, map_same, member_stays, FollowsAll, follows_none, here_goes_not, end_goes_not, item_kept}

-- ---- a stretch read elsewhere

module _ {move : ℕ → ℕ} {xs ys : List ℕ} {from to : ℕ} (s : Stretch move xs ys from to) (f : FollowsAll move xs ys to) where
  -- an item, wherever it stands
  pub here_moved : (at : ℕ) (p : Placed) (next : ℕ) → from ≤ at → next ≤ to → ItemHere xs at p next → ItemHere ys (move at) (moved_placed move p) (move next)
  here_moved at p next h l (ItemHere.here {i} {n} r) = rw (s.even at n h) (ItemHere.here (item_kept n (drop at xs) (drop (move at) ys) same behind i n (omega arith) r))
    where
      same : Stretch stay (drop at xs) (drop (move at) ys) 0 n
      same = record {
        within = omega (arith, length-drop at xs, s.within);
        there = omega (arith, length-drop (move at) ys, room_on s at n h l);
        even = λ i k m. refl;
        words = λ k m j. get_or-drop at xs k 0 ∙ word_on s at k h (omega arith) ∙ sym (get_or-drop (move at) ys k 0);
      }

      behind : FollowsAll stay (drop at xs) (drop (move at) ys) n
      behind test t e = rw (get_or-drop (move at) ys n 0, ← s.even at n h) (none_moved s test (at + n) (omega arith) l (f test t) (rw (get_or-drop at xs n 0) at e))

  -- ITEMS that follow each other
  pub items_moved : {at stop : ℕ} {l : List Placed} → from ≤ at → stop ≤ to → Chain (ItemHere xs) at l stop → Chain (ItemHere ys) (move at) (map (moved_placed move) l) (move stop)
  items_moved h l c = chain_moved s (moved_placed move) (λ at p next r. (here_onward xs at p next r).0) here_moved h l c

-- ---- one member changed

-- no cover stands where a member does
pub member_no_cover : (ws : List ℕ) (at : ℕ) (m : Member) (next : ℕ) → MemberRead ws at m next → NoneOf is_cover ws at
member_no_cover ws at m next (MemberRead.of_trade w) = rw w.of
member_no_cover ws at m next (MemberRead.of_credit w c) = rw w.of
member_no_cover ws at m next (MemberRead.of_basket w) = rw w.of

module _ {move : ℕ → ℕ} {xs ys : List ℕ} {from to : ℕ} (s : Stretch move xs ys from to) (f : Follows is_cover move xs ys to) where
  -- MEMBERS that follow each other in a set
  pub members_moved : {at stop : ℕ} {l : List Member} → from ≤ at → stop ≤ to → Chain (MemberRead xs) at l stop → Chain (MemberRead ys) (move at) (map (moved_member move) l) (move stop)
  members_moved h l c = chain_moved s (moved_member move) (λ at m next r. (member_onward xs at m next r).0) (member_moved s f) h l c

-- A SET WITH ONE MEMBER CHANGED: the words before it are the same, it is read as n, and the words behind it stand elsewhere
pub changed_members : {move : ℕ → ℕ} (xs ys : List ℕ) (from at next stop : ℕ) (before : List Member) (n : Member) (after : List Member)
    → Chain (MemberRead xs) from before at → Stretch stay xs ys from at → MemberRead ys at n (move next)
    → Chain (MemberRead xs) next after stop → Stretch move xs ys next stop → NoneOf is_cover ys (move stop)
    → Chain (MemberRead ys) from (before ++ n ∷ map (moved_member move) after) (move stop)
changed_members xs ys from at next stop before n after first s one last t e =
    chain_append (rw (map_same (moved_member stay) member_stays before) at (members_moved s (λ _. member_no_cover ys at n _ one) (omega arith) (omega arith) first))
    (Chain.then one (members_moved t (λ _. e) (omega arith) (omega arith) last))

-- ---- the front of a book: its head and its protections

-- words that begin alike have the same head
module _ (xs ys : List ℕ) (n : ℕ) (s : Stretch stay xs ys 0 n) (h : first_record ≤ n) where
  at_word : (i : ℕ) → i < first_record → word xs i ≡ word ys i
  at_word i l = s.words i (omega arith) (omega arith)

  pub head_same : head_of xs ≡ head_of ys
  unfolding head_of reporting_date date_faulty
  head_same = rw (at_word 0 (omega arith), at_word 1 (omega arith), at_word 2 (omega arith))

  pub head_faulty_same : head_faulty xs ≡ head_faulty ys
  unfolding head_faulty
  head_faulty_same =
      rw (le-ltb (length xs) first_record (omega (arith, s.within)), le-ltb (length ys) first_record (omega (arith, s.there)), at_word 0 (omega arith), at_word 1 (omega arith))

  pub date_faulty_same : date_faulty xs ≡ date_faulty ys
  unfolding date_faulty
  date_faulty_same = rw (at_word 2 (omega arith))

  -- and, so far as they go, the same protections
  pub protections_same : {at stop : ℕ} {ps : List Protection} → stop ≤ n → Chain (ProtectionRead xs) at ps stop → Chain (ProtectionRead ys) at ps stop
  protections_same {ps = ps} l c =
      rw (map-id ps) at
      (chain_moved s {S = ProtectionRead ys} (λ p. p) (λ at p next r. (protection_onward xs at p next r).0) (protection_moved s) (omega arith) l c)

-- ---- one item changed

-- the second book has q where the first has p, and the same words before it and behind it
pub record Changed (move : ℕ → ℕ) (xs ys : List ℕ) (p q : Placed) : Type 0 where
  pub front : Stretch stay xs ys 0 p.begin
  pub other : ItemHere ys p.begin q (move p.end)
  pub back : Stretch move xs ys p.end (items_of xs).place
  pub end : EndHere ys (move (items_of xs).place)

module _ {move : ℕ → ℕ} (xs ys : List ℕ) (before : List Placed) (p q : Placed) (after : List Placed)
    (number : (items_of xs).number ≡ 0) (is : (items_of xs).records ≡ before ++ p ∷ after) (c : Changed move xs ys p q) where
  -- A BOOK WITH ONE ITEM CHANGED has the same head and protections, the items before as they were, and those behind at other places
  pub changed_book : (head_of xs ≡ head_of ys) × (protections_of xs ≡ protections_of ys) × (items_of ys ≡ sure_run (before ++ q ∷ map (moved_placed move) after) (move (items_of xs).place))
  changed_book =
      let k = book_cut xs number in
      let t = chain_split before (rw is at k.items) in
      let w = here_places xs t.begin p t.end t.one in
      let o = chain_onward (λ at r next h. (here_onward xs at r next h).0) t.before in
      let h = head_same xs ys p.begin c.front (omega arith) in
      let ps = protections_same xs ys p.begin c.front (omega arith) (omega arith) k.protections in
      let many : length (protections_of xs).records ≡ (head_of ys).protections = k.many ∙ ap (λ (x : Head). x.protections) h in
      let at_it = follows_none stay xs ys p.begin (here_goes_not ys p.begin q _ c.other) in
      let first = rw (map_same (moved_placed stay) (λ r. refl) before) at (items_moved c.front at_it (omega arith) (omega arith) (rw (← w.0) at t.before)) in
      let last = items_moved c.back (follows_none move xs ys (items_of xs).place (end_goes_not ys _ c.end)) (omega arith) (omega arith) (rw (← w.1) at t.after) in
      let all = chain_append first (Chain.then c.other last) in (
        h,
        cut_protections xs _ _ _ _ k.many k.protections k.items k.end ∙ sym (cut_protections ys _ _ _ _ many ps all c.end),
        cut_items ys _ _ _ _ many ps all c.end,
      )

-- so with rows and entries enough it is read as these, if it is not too long
pub changed_read : {move : ℕ → ℕ} (xs ys : List ℕ) (rows entries : ℕ) (before : List Placed) (p q : Placed) (after : List Placed)
    → ReadAs xs rows entries (before ++ p ∷ after) → Changed move xs ys p q → length ys ≤ 2 ^ 20 → ReadAs ys rows entries (before ++ q ∷ map (moved_placed move) after)
changed_read xs ys rows entries before p q after r c short =
    let b = changed_book xs ys before p q after r.number r.read c in
    let h = (item_stands xs r.number before p after r.read).from in
    record {
      rows_enough = r.rows_enough;
      short = short;
      head = sym (head_faulty_same xs ys p.begin c.front (omega arith)) ∙ r.head;
      date = sym (date_faulty_same xs ys p.begin c.front (omega arith)) ∙ r.date;
      room = rw (← b.0) r.room;
      number = rw b.2;
      read = rw b.2;
    }
