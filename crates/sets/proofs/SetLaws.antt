-- A search by kinds finds what request A.1 speaks of: in an accepted book it begins at the set of the ordinal and ends where that set ends.
-- Assumes nothing.
use Prim.Native.Nat.{ℕ, zero, suc, ◌+◌, ◌-◌, ◌<◌}
use mathlib.Core.Path.{◌≡◌, refl, sym, ◌∙◌, ap}
use mathlib.Core.Logic.{◌⊎◌, inl, inr}
use mathlib.Core.Bool.{Bool, true, false, cond, ◌||◌, not}
use mathlib.Core.List.{List, [], ◌∷◌, ◌++◌}
use mathlib.Core.Option.{Option, none, some}
use native.Mathlib.Omega.{arith}
use borrow.Author.Tests.{lt-ltb, le-ltb, eqb-true}
use lib.Dec.{eqb}
use lib.ListN.{length, get_or, get_elem?}
use denote.Ref.{Bor}
use Rattle.rules.specs.declared.Bands.{Bands}
use Rattle.rules.specs.Word.{word, kind_of}
use Rattle.rules.specs.Book.{Item, asset, derivatives, financing, off_balance, Placed}
use Rattle.rules.specs.Read.{head_of, items_of}
use Rattle.rules.specs.Filing.{Outcome, early, refused, accepted, admission, outcome_of}
use Rattle.laws.proofs.Accepted.{accepted_is}
use Rattle.std.specs.Prelude.{Result, Err}
use Rattle.rules.specs.declared.Sums.{Sums}
use Rattle.rules.specs.declared.causes.Refusal.{Refusal}
use Rattle.rules.specs.Numbers.{cause_number}
use Rattle.reading.specs.Admission.{Admission}
use Rattle.reading.specs.Admission.{Admitted, Refused}
use Rattle.filing.specs.Answers.{admission_of}
use Rattle.cuts.proofs.Cutting.{kind_of_item, items_begin, here_kind, here_onward, item_stands, StandsIn, book_cut}
use Rattle.cuts.proofs.ByKind.{begins, picked, opens, sets_by_kind}
use Rattle.cuts.proofs.ByKind as by_kind
use Rattle.cuts.proofs.EachWord.{item_next, inside_closed, inside_own}
use Rattle.sets.specs.Sets.{is_set, sets_of, shown_set, shown_in, showing}
use Rattle.sets.specs.Search.{leaves_financing, ends, place_from, found_at, found_in, Shows}
use Rattle.sets.proofs.SearchLaws.{scan_silent, place_here, place_after}

-- ---- the sets by kind are the sets

pub set_kind : (i : Item) → by_kind.is_set (kind_of_item i) ≡ is_set i
set_kind (asset a) = refl
set_kind (derivatives s) = refl
set_kind (financing s) = refl
set_kind (off_balance o) = refl

sets_picked : (l : List Placed) → picked by_kind.is_set l ≡ sets_of l
unfolding picked sets_of
sets_picked [] = refl
sets_picked (p ∷ l) = rw (set_kind p.item, sets_picked l)

-- ---- one of several

-- the item stands among others
pub record Among (l : List Placed) (p : Placed) : Type 0 where
  pub front : List Placed
  pub back : List Placed
  pub are : l ≡ front ++ p ∷ back

one_more : (q : Placed) {l : List Placed} {p : Placed} → Among l p → Among (q ∷ l) p
one_more q a = record { front = q ∷ a.front; back = a.back; are = ap (λ (x : List Placed). q ∷ x) a.are }

-- a set of some ordinal is one of the items, and is a set
pub nth_among : (l : List Placed) (n : ℕ) (p : Placed) → get_elem? (sets_of l) n ≡ some p → Among l p × (is_set p.item ≡ true)
unfolding sets_of
nth_among [] n p e = let z : ◌≡◌ {A = ℕ} 0 1 = cc in absurd (omega arith)
nth_among (q ∷ l) n p e = go (is_set q.item) refl n e (λ m f. nth_among l m p f)
  where
    go : (b : Bool) → is_set q.item ≡ b → (n : ℕ) → get_elem? (cond b (q ∷ sets_of l) (sets_of l)) n ≡ some p
        → ((m : ℕ) → get_elem? (sets_of l) m ≡ some p → Among l p × (is_set p.item ≡ true)) → Among (q ∷ l) p × (is_set p.item ≡ true)
    go true s zero f h = let same : q ≡ p = cc in rw (← same) (record { front = []; back = l; are = refl }, s)
    go true s (suc n) f h = let r = h n f in (one_more q r.0, r.1)
    go false s n f h = let r = h n f in (one_more q r.0, r.1)

-- ---- where a set begins

unfoldable pub begin_or : ℕ → Option Placed → ℕ
begin_or d none = d
begin_or d (some p) = p.begin

nth_begins : (l : List Placed) (n d : ℕ) → get_or (begins l) n d ≡ begin_or d (get_elem? l n)
unfolding begin_or
nth_begins [] n d = refl
nth_begins (p ∷ l) zero d = refl
nth_begins (p ∷ l) (suc n) d = nth_begins l n d

pub begin_found : (ws : List ℕ) → (items_of ws).number ≡ 0 → (n : ℕ) → place_from by_kind.is_set ws (items_begin ws) n ≡ begin_or (length ws) (get_elem? (sets_of (items_of ws).records) n)
unfolding place_from
begin_found ws e n = rw (sets_by_kind ws e, sets_picked (items_of ws).records) (nth_begins (sets_of (items_of ws).records) n (length ws))

-- ---- where it ends

-- the next word that passes, behind some that do not
ends_at : (test : ℕ → Bool) (ws : List ℕ) (begin end : ℕ) → begin < end → end < length ws → ((i : ℕ) → begin < i → i < end → test (kind_of (word ws i)) ≡ false) → test (kind_of (word ws end)) ≡ true
    → place_from test ws (begin + 1) 0 ≡ end
ends_at test ws begin end l m inside t =
    let n : begin + 1 + (end - (begin + 1)) ≡ end = omega arith in
    let silent = scan_silent test ws (end - (begin + 1)) (begin + 1) (λ i h k. inside i (omega arith) (omega arith)) in
    let past = place_after test ws (begin + 1) (end - (begin + 1)) 0 0 (omega arith) (sym (ap length silent)) (omega arith) in
    sym past ∙ ap (λ (i : ℕ). place_from test ws i 0) n ∙ place_here test ws end m t

-- what opens an item is no amount and no financing trade
opens_leaves : (k : ℕ) → opens k ≡ true → leaves_financing k ≡ true
opens_leaves k e = go (eqb k 0) refl (eqb k 9) refl
  where
    go : (a : Bool) → eqb k 0 ≡ a → (b : Bool) → eqb k 9 ≡ b → not (a || b) ≡ true
    go true z b f = let f = rw (eqb-true k 0 z) at e in let y : ◌≡◌ {A = ℕ} 0 1 = cc in absurd (omega arith)
    go false z true f = let f = rw (eqb-true k 9 f) at e in let y : ◌≡◌ {A = ℕ} 0 1 = cc in absurd (omega arith)
    go false z false f = refl

stays_inside : (k : ℕ) → (k ≡ 0) ⊎ (eqb k 9 ≡ true) → leaves_financing k ≡ false
stays_inside k (inl z) = rw z
stays_inside k (inr z) = rw (eqb-true k 9 z)

module _ (ws : List ℕ) (p : Placed) (here : StandsIn ws p) (last : p.end < length ws) (next : opens (kind_of (word ws p.end)) ≡ true) where
  onward : p.begin < p.end
  onward = (here_onward ws p.begin p p.end here.here).0

  set_ends : (i : Item) → p.item ≡ i → is_set i ≡ true → place_from (ends (kind_of_item i)) ws (p.begin + 1) 0 ≡ p.end
  set_ends (derivatives s) e t = ends_at opens ws p.begin p.end onward last (inside_closed ws p.begin p p.end here.here) next
  set_ends (financing s) e t =
      ends_at leaves_financing ws p.begin p.end onward last
      (λ i l m. stays_inside (kind_of (word ws i)) (rw e at (inside_own ws p.begin p p.end here.here i l m))) (opens_leaves (kind_of (word ws p.end)) next)
  set_ends (asset a) e t = let z : ◌≡◌ {A = ℕ} 0 1 = cc in absurd (omega arith)
  set_ends (off_balance o) e t = let z : ◌≡◌ {A = ℕ} 0 1 = cc in absurd (omega arith)

-- ---- THE SET OF AN ORDINAL is what the search finds

pub found_set : (ws : List ℕ) → (items_of ws).number ≡ 0 → (n : ℕ) → found_at ws (place_from by_kind.is_set ws (items_begin ws) n) ≡ shown_set (get_elem? (sets_of (items_of ws).records) n)
unfolding begin_or
found_set ws e n = ap (found_at ws) (begin_found ws e n) ∙ go (get_elem? (sets_of (items_of ws).records) n) refl
  where
    go : (o : Option Placed) → get_elem? (sets_of (items_of ws).records) n ≡ o → found_at ws (begin_or (length ws) o) ≡ shown_set o
    go none f = rw (le-ltb (length ws) (length ws) (omega arith))
    go (some p) f =
        let a = nth_among (items_of ws).records n p f in
        let here = item_stands ws e a.0.front p a.0.back a.0.are in
        let next = item_next ws e a.0.front p a.0.back a.0.are in
        let last : p.end < length ws = omega (arith, here.to, (book_cut ws e).end.last) in
        let over = set_ends ws p here last next p.item refl a.1 in
        let begins : p.begin < length ws = omega (arith, onward ws p here last next) in
        rw (lt-ltb p.begin (length ws) begins, here_kind ws p.begin p p.end here.here, over)

-- and so it is for every book, as far as it came
pub found_showing : (ws : List ℕ) (ordinal entries : ℕ) (bands : Bands) (a : Admission) → a ≡ admission_of bands (admission ws entries) → found_in ws ordinal a ≡ showing ws ordinal entries
unfolding showing outcome_of
found_showing ws ordinal entries bands a q = rw q (go (admission ws entries) refl)
  where
    go : (o : Outcome) → admission ws entries ≡ o → found_in ws ordinal (admission_of bands o) ≡ shown_in o ordinal
    go (early number) e = refl
    go (refused number place) e = refl
    go (accepted items left) e =
        let r = (accepted_is ws 22 entries items left e).reading in
        found_set ws r.number ordinal ∙ ap (λ (l : List Placed). shown_set (get_elem? (sets_of l) ordinal)) r.read

-- ---- as the code answers it

module _ (book : Bor (List ℕ)) (ordinal entries : ℕ) where
  pub shows_refused : (r : Refusal) → Refused (cause_number r.cause) r.place ≡ admission_of (head_of book.now).bands (admission book.now entries)
      → Shows book (showing book.now ordinal entries) (Err r)
  shows_refused r q = sym (found_showing book.now ordinal entries (head_of book.now).bands (Refused (cause_number r.cause) r.place) q)

  pub shows_found : (s : Sums) → Admitted s ≡ admission_of (head_of book.now).bands (admission book.now entries) → (r : Result (Bor (List ℕ)) Refusal)
      → Shows book (found_at book.now (place_from by_kind.is_set book.now (items_begin book.now) ordinal)) r → Shows book (showing book.now ordinal entries) r
  shows_found s q r h = rw (found_showing book.now ordinal entries (head_of book.now).bands (Admitted s) q) at h
