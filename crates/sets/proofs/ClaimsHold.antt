-- The claims about sets that are shown: beside a filing, and beside each other. Assumes nothing.
use Prim.Native.Nat.{ℕ, zero, suc, ◌≤◌, ◌<◌}
use mathlib.Core.Path.{◌≡◌, refl, ◌∙◌}
use mathlib.Core.Bool.{Bool, true, false, cond}
use mathlib.Core.List.{List, [], ◌∷◌}
use mathlib.Core.Option.{Option, none, some}
use native.Mathlib.Omega.{arith}
use borrow.Author.Tests.{le-ltb}
use lib.IntN.{ℤ}
use lib.ListN.{length, get_elem?}
use Rattle.rules.specs.declared.Entry.{Entry}
use Rattle.rules.specs.Book.{Placed}
use Rattle.rules.specs.Read.{head_of, items_of}
use Rattle.rules.specs.Filing.{Outcome, early, refused, accepted, admission, outcome_of, register_after, filing_of, filing}
use Rattle.laws.proofs.Accepted.{accepted_is, Numbered, numbered}
use Rattle.cuts.proofs.Chains.{Chain}
use Rattle.cuts.proofs.Cutting.{ItemHere, here_kind, here_places, here_onward, item_stands, book_cut}
use Rattle.sets.specs.Sets.{is_set, sets_of, shown_set, showing}
use Rattle.sets.specs.Claims.{LikeFiling, AsFiled, SetsStretch, SetsApart}
use Rattle.sets.proofs.SetLaws.{set_kind, nth_among}

-- a book with some register, as far as it comes; no refusal has the number 0
pub told : (ws : List ℕ) (entries : ℕ) → Numbered (admission ws entries)
unfolding outcome_of
told ws entries = numbered ws 22 entries

pub sure : (ws : List ℕ) (entries : ℕ) {o : Outcome} → admission ws entries ≡ o → outcome_of ws 22 entries ≡ o
unfolding outcome_of
sure ws entries e = e

-- ---- beside a filing

filing_is : (ws : List ℕ) (rows : List ℤ) (register : List Entry) → 22 ≤ length rows → filing ws rows register ≡ filing_of (head_of ws) (admission ws (length register)) rows register
unfolding filing outcome_of
filing_is ws rows register h = rw (le-ltb (length rows) 22 h)

-- one of several, by its place in the list
nth_there : {A : Type 0} (l : List A) (n : ℕ) → n < length l → get_elem? l n ≡ none → ⊥
nth_there [] n h e = omega arith
nth_there (a ∷ l) zero h e = let z : ◌≡◌ {A = ℕ} 0 1 = cc in omega arith
nth_there (a ∷ l) (suc n) h e = nth_there l n (omega arith) e

nth_missing : {A : Type 0} (l : List A) (n : ℕ) → length l ≤ n → get_elem? l n ≡ none
nth_missing [] n h = refl
nth_missing (a ∷ l) zero h = absurd (omega arith)
nth_missing (a ∷ l) (suc n) h = nth_missing l n (omega arith)

set_there : (l : List Placed) (n : ℕ) → n < length l → (shown_set (get_elem? l n)).number ≡ 0
set_there l n h = go (get_elem? l n) refl
  where
    go : (o : Option Placed) → get_elem? l n ≡ o → (shown_set o).number ≡ 0
    go none e = absurd (nth_there l n h e)
    go (some p) e = refl

pub as_filed : AsFiled
unfolding showing
as_filed ws ordinal rows register h = go (admission ws (length register)) refl (told ws (length register))
  where
    f : filing ws rows register ≡ filing_of (head_of ws) (admission ws (length register)) rows register
    f = filing_is ws rows register h

    settles : register_after (head_of ws) (admission ws (length register)) register ≡ (filing ws rows register).register
    settles = rw f

    go : (o : Outcome) → admission ws (length register) ≡ o → Numbered o → LikeFiling ws ordinal rows register
    go (early _) e (Numbered.earlies {number}) = record {
      refusal = λ z. rw (f, e);
      there = λ z l. absurd (omega (arith, rw (f, e) at z));
      missing = λ z l. absurd (omega (arith, rw (f, e) at z));
      settled = settles;
    }
    go (refused _ place) e (Numbered.refusals {number}) = record {
      refusal = λ z. rw (f, e);
      there = λ z l. absurd (omega (arith, rw (f, e) at z));
      missing = λ z l. absurd (omega (arith, rw (f, e) at z));
      settled = settles;
    }
    go (accepted items left) e n =
        let r = (accepted_is ws 22 (length register) items left (sure ws (length register) e)).reading.read in
        record {
          refusal = λ z. absurd (z (rw (f, e)));
          there = λ z l. rw e (set_there (sets_of items) ordinal (rw r at l));
          missing = λ z l. rw (e, nth_missing (sets_of items) ordinal (rw r at l));
          settled = settles;
        }

-- ---- a stretch that is shown

-- the item of which it is, and what any other ordinal shows
record OneShown (ws : List ℕ) (ordinal entries : ℕ) : Type 0 where
  placed : Placed
  reads : (items_of ws).number ≡ 0
  nth : get_elem? (sets_of (items_of ws).records) ordinal ≡ some placed
  shows : (n : ℕ) → showing ws n entries ≡ shown_set (get_elem? (sets_of (items_of ws).records) n)

one_shown : (ws : List ℕ) (ordinal entries : ℕ) → (showing ws ordinal entries).number ≡ 0 → OneShown ws ordinal entries
unfolding showing
one_shown ws ordinal entries z = go (admission ws entries) refl (told ws entries)
  where
    go : (o : Outcome) → admission ws entries ≡ o → Numbered o → OneShown ws ordinal entries
    go (early _) e (Numbered.earlies {number}) = absurd (omega (arith, rw e at z))
    go (refused _ place) e (Numbered.refusals {number}) = absurd (omega (arith, rw e at z))
    go (accepted items left) e n = set (get_elem? (sets_of items) ordinal) refl
      where
        set : (p : Option Placed) → get_elem? (sets_of items) ordinal ≡ p → OneShown ws ordinal entries
        set none q = absurd (omega (arith, rw (e, q) at z))
        set (some p) q =
            let r = (accepted_is ws 22 entries items left (sure ws entries e)).reading in
            record { placed = p; reads = r.number; nth = rw r.read q; shows = λ n. rw (e, r.read) }

pub sets_stretch : SetsStretch
sets_stretch ws ordinal entries z =
    let o = one_shown ws ordinal entries z in
    let p = o.placed in
    let a = nth_among (items_of ws).records ordinal p o.nth in
    let here = item_stands ws o.reads a.0.front p a.0.back a.0.are in
    rw (o.shows ordinal, o.nth)
    (record {
      some = (here_onward ws p.begin p p.end here.here).0;
      before_end = omega (arith, here.to, (book_cut ws o.reads).end.last);
      head = rw (here_kind ws p.begin p p.end here.here) (set_kind p.item ∙ a.1);
    })

-- ---- two stretches

module _ (ws : List ℕ) where
  -- a set of a chain stands behind where the chain begins
  nth_from : {at stop : ℕ} {l : List Placed} → Chain (ItemHere ws) at l stop → (n : ℕ) (q : Placed) → get_elem? (sets_of l) n ≡ some q → at ≤ q.begin
  unfolding sets_of
  nth_from Chain.done n q e = let z : ◌≡◌ {A = ℕ} 0 1 = cc in absurd (omega arith)
  nth_from (Chain.then {at} {next} {a = p} {l} h c) n q e = go (is_set p.item) n e (λ m f. nth_from c m q f)
    where
      go : (b : Bool) (n : ℕ) → get_elem? (cond b (p ∷ sets_of l) (sets_of l)) n ≡ some q → ((m : ℕ) → get_elem? (sets_of l) m ≡ some q → next ≤ q.begin) → at ≤ q.begin
      go true zero f k = let same : p ≡ q = cc in rw (← same) (omega (arith, (here_places ws at p next h).0))
      go true (suc n) f k = omega (arith, k n f, (here_onward ws at p next h).0)
      go false n f k = omega (arith, k n f, (here_onward ws at p next h).0)

  nth_apart : {at stop : ℕ} {l : List Placed} → Chain (ItemHere ws) at l stop → (m n : ℕ) → m < n → (p q : Placed) → get_elem? (sets_of l) m ≡ some p → get_elem? (sets_of l) n ≡ some q → p.end ≤ q.begin
  unfolding sets_of
  nth_apart Chain.done m n h p q e f = let z : ◌≡◌ {A = ℕ} 0 1 = cc in absurd (omega arith)
  nth_apart (Chain.then {at} {next} {a = r} {l} one c) m n h p q e f = go (is_set r.item) m n h e f (λ i j k. nth_apart c i j k p q)
    where
      go : (b : Bool) (m n : ℕ) → m < n → get_elem? (cond b (r ∷ sets_of l) (sets_of l)) m ≡ some p → get_elem? (cond b (r ∷ sets_of l) (sets_of l)) n ≡ some q
          → ((i j : ℕ) → i < j → get_elem? (sets_of l) i ≡ some p → get_elem? (sets_of l) j ≡ some q → p.end ≤ q.begin) → p.end ≤ q.begin
      go true m zero h e f k = absurd (omega arith)
      go true zero (suc n) h e f k = let same : r ≡ p = cc in rw (← same) (omega (arith, (here_places ws at r next one).1, nth_from c n q f))
      go true (suc m) (suc n) h e f k = k m n (omega arith) e f
      go false m n h e f k = k m n h e f

pub sets_apart : SetsApart
sets_apart ws earlier later entries h z =
    let o = one_shown ws later entries z in
    rw (o.shows earlier, o.shows later, o.nth) (go o.reads o.placed o.nth (get_elem? (sets_of (items_of ws).records) earlier) refl)
  where
    go : (items_of ws).number ≡ 0 → (q : Placed) → get_elem? (sets_of (items_of ws).records) later ≡ some q
        → (p : Option Placed) → get_elem? (sets_of (items_of ws).records) earlier ≡ p → (shown_set p).end ≤ q.begin
    go r q f none e = omega arith
    go r q f (some p) e = nth_apart ws (book_cut ws r).items earlier later h p q e f
