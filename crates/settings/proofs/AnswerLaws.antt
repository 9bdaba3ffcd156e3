-- The derivative set of an ordinal: the search by kinds finds it, or what it finds is none. Assumes nothing.
use Prim.Native.Nat.{ℕ}
use mathlib.Core.Path.{◌≡◌, refl, sym, ◌∙◌, ap}
use mathlib.Core.Bool.{Bool, true, false, not}
use mathlib.Core.List.{List, ◌∷◌, ◌++◌}
use mathlib.Core.Option.{Option, none, some}
use native.Mathlib.Omega.{arith}
use borrow.Author.Tests.{le-ltb, not-true, not-false}
use lib.ListN.{length, get_elem?}
use Rattle.rules.specs.declared.Entry.{Entry}
use Rattle.rules.specs.declared.Sums.{Sums}
use Rattle.rules.specs.Word.{word, kind_of}
use Rattle.rules.specs.Book.{Item, asset, derivatives, financing, off_balance, Placed}
use Rattle.rules.specs.Read.{head_of, stands}
use Rattle.rules.specs.Rows.{sums_of}
use Rattle.rules.specs.Filing.{Outcome, early, refused, accepted, admission, outcome_of}
use Rattle.laws.specs.ReadAs.{ReadAs}
use Rattle.laws.proofs.Accepted.{accepted_is}
use Rattle.reading.specs.Admission.{Admission}
use Rattle.reading.specs.Admission.{Admitted, Refused}
use Rattle.template.specs.Sections.{SumsFit}
use Rattle.filing.specs.Answers.{admission_of}
use Rattle.filing.proofs.FilingLaws.{admission_fits}
use Rattle.cuts.proofs.Grammar.{stands_by_kind}
use Rattle.cuts.proofs.Cutting.{kind_of_item, items_begin, here_kind, item_stands}
use Rattle.cuts.proofs.ByKind as by_kind
use Rattle.sets.specs.Sets.{is_set, sets_of}
use Rattle.std.proofs.Common.{None}
use Rattle.sets.specs.Search.{place_from, IsPlace}
use Rattle.sets.proofs.ClaimsHold.{sure}
use Rattle.sets.proofs.SetLaws.{Among, nth_among, begin_or, begin_found}
use Rattle.settings.specs.Settings.{Counted, verdict_with, counts_of, turned_away, counted_item, counted_set, counted_in, counting}
use Rattle.settings.specs.Chosen.{IsAdmission, ChosenSet}
use Rattle.settings.proofs.Covers.{clash}

-- ---- a book that was admitted is accepted

pub record Admission-is (ws : List ℕ) (register : List Entry) (sums : Sums) : Type 0 where
  pub items : List Placed
  pub left : List Entry
  pub accepts : admission ws (length register) ≡ accepted items left
  pub sums_are : sums ≡ sums_of (head_of ws).bands items

-- no refusal is an admission
refused_not : {X : Type 0} (number place : ℕ) (sums : Sums) → ◌≡◌ {A = Admission} (Admitted sums) (Refused number place) → X
refused_not number place sums e = let z : ◌≡◌ {A = ℕ} 0 1 = cc in absurd (omega arith)

admitted_is : (ws : List ℕ) (register : List Entry) (sums : Sums) → IsAdmission ws register (Admitted sums) → Admission-is ws register sums
admitted_is ws register sums a = go (admission ws (length register)) refl a
  where
    go : (o : Outcome) → admission ws (length register) ≡ o → Admitted sums ≡ admission_of (head_of ws).bands o → Admission-is ws register sums
    go (early number) e q = refused_not number 0 sums q
    go (refused number place) e q = refused_not number place sums q
    go (accepted items left) e q = record { items = items; left = left; accepts = e; sums_are = cc }

-- its sums fit the rows
pub chosen_fits : (ws : List ℕ) (register : List Entry) (sums : Sums) (head : ℕ) → ChosenSet ws register sums head → SumsFit sums
unfolding outcome_of
chosen_fits ws register sums head c =
    let e : admission ws (length register) ≡ accepted (c.front ++ c.placed ∷ c.back) c.left = c.among.accepts in
    admission_fits ws 22 (length register) (omega arith) (Admitted sums) (rw (e, c.sums_are) refl)

-- ---- what is found

-- behind the last word nothing stands
stands_none : (ws : List ℕ) → stands 4 ws (length ws) ≡ false
stands_none ws = rw (le-ltb (length ws) (length ws) (omega arith)) refl

-- a derivative set, which begins there; or none
pub data Found (ws : List ℕ) (ordinal : ℕ) (register : List Entry) (sums : Sums) (head : ℕ) : Type 0 where
  set : ChosenSet ws register sums head → counting ws ordinal register ≡ counts_of (verdict_with ws register head) → stands 4 ws head ≡ true → Found ws ordinal register sums head
  nothing : counting ws ordinal register ≡ turned_away 15 0 → stands 4 ws head ≡ false → Found ws ordinal register sums head

module _ (ws : List ℕ) (ordinal : ℕ) (register : List Entry) (sums : Sums) (a : IsAdmission ws register (Admitted sums)) where
  is : Admission-is ws register sums
  is = admitted_is ws register sums a

  reading : ReadAs ws 22 (length register) is.items
  reading = (accepted_is ws 22 (length register) is.items is.left (sure ws (length register) is.accepts)).reading

  abbrev sought : Option Placed
  sought = get_elem? (sets_of is.items) ordinal

  answered : {o : Option Placed} → sought ≡ o → counting ws ordinal register ≡ counted_set ws register o
  unfolding counting
  answered e = ap (counted_in ws ordinal register) is.accepts ∙ ap (counted_set ws register) e

  -- the kind of the word at which a set begins
  set_kind : (p : Placed) → Among is.items p → kind_of (word ws p.begin) ≡ kind_of_item p.item
  set_kind p m = here_kind ws p.begin p p.end (item_stands ws reading.number m.front p m.back (reading.read ∙ m.are)).here

  by_item : (p : Placed) → Among is.items p → sought ≡ some p → (i : Item) → p.item ≡ i → is_set i ≡ true → Found ws ordinal register sums p.begin
  by_item p m e (asset x) q s = clash (sym s)
  by_item p m e (derivatives s) q t =
      let accepts = ap (λ (l : List Placed). accepted l is.left) m.are in
      Found.set
      (record {
        left = is.left;
        front = m.front;
        placed = p;
        set = s;
        back = m.back;
        among = record { accepts = sure ws (length register) (is.accepts ∙ accepts); set = q };
        begins = refl;
        sums_are = is.sums_are ∙ ap (sums_of (head_of ws).bands) m.are;
      })
      (answered e ∙ ap (counted_item ws register p.begin) q)
      (stands_by_kind ws p.begin 3 ∙ rw (set_kind p m, q))
  by_item p m e (financing x) q s = Found.nothing (answered e ∙ ap (counted_item ws register p.begin) q) (stands_by_kind ws p.begin 3 ∙ rw (set_kind p m, q))
  by_item p m e (off_balance x) q s = clash (sym s)

  -- THE SET OF THE ORDINAL, where the search ends
  pub found : {head begin : ℕ} → begin ≡ items_begin ws → head ≡ place_from by_kind.is_set ws begin ordinal → Found ws ordinal register sums head
  unfolding begin_or
  found {head} bq hq = go sought refl (hq ∙ ap (λ (b : ℕ). place_from by_kind.is_set ws b ordinal) bq ∙ begin_found ws reading.number ordinal ∙ ap (λ (l : List Placed). begin_or (length ws) (get_elem? (sets_of l) ordinal)) reading.read)
    where
      go : (o : Option Placed) → sought ≡ o → head ≡ begin_or (length ws) o → Found ws ordinal register sums head
      go none e h = Found.nothing (answered e) (rw h (stands_none ws))
      go (some p) e h = let n = nth_among is.items ordinal p e in rw h (by_item p n.0 e p.item refl n.1)

  -- the search finds no set
  pub answered_none : IsPlace (length ws) (place_from by_kind.is_set ws (items_begin ws) ordinal) None → turned_away 15 0 ≡ counting ws ordinal register
  answered_none n = go (found {head = length ws} refl (sym n))
    where
      go : Found ws ordinal register sums (length ws) → turned_away 15 0 ≡ counting ws ordinal register
      go (Found.set c e s) = clash (sym s ∙ stands_none ws)
      go (Found.nothing e s) = sym e

  module _ {head : ℕ} (hq : head ≡ place_from by_kind.is_set ws (items_begin ws) ordinal) {b : Bool} (sq : b ≡ stands 4 ws head) where
    -- none stands there
    pub answered_15 : not b ≡ true → turned_away 15 0 ≡ counting ws ordinal register
    answered_15 t = go (found refl hq)
      where
        go : Found ws ordinal register sums head → turned_away 15 0 ≡ counting ws ordinal register
        go (Found.set c e s) = clash (sym s ∙ sym sq ∙ not-true b t)
        go (Found.nothing e s) = sym e

    -- one does
    module _ (t : not b ≡ false) where
      pub chosen_there : ChosenSet ws register sums head
      chosen_there = go (found refl hq)
        where
          go : Found ws ordinal register sums head → ChosenSet ws register sums head
          go (Found.set c e s) = c
          go (Found.nothing e s) = clash (sym (not-false b t) ∙ sq ∙ s)

      pub answered_counts : {r : Counted} → ((register : List Entry) → ChosenSet ws register sums head → r ≡ counts_of (verdict_with ws register head)) → r ≡ counting ws ordinal register
      answered_counts {r} q = go (found refl hq)
        where
          go : Found ws ordinal register sums head → r ≡ counting ws ordinal register
          go (Found.set c e s) = q register c ∙ sym e
          go (Found.nothing e s) = clash (sym (not-false b t) ∙ sq ∙ s)

-- ---- a refused book

pub answered_refused : (ws : List ℕ) (ordinal : ℕ) (register : List Entry) (number place : ℕ) → IsAdmission ws register (Refused number place) → turned_away number place ≡ counting ws ordinal register
unfolding counting
answered_refused ws ordinal register number place is = go (admission ws (length register)) refl is
  where
    go : (o : Outcome) → admission ws (length register) ≡ o → ◌≡◌ {A = Admission} (Refused number place) (admission_of (head_of ws).bands o) → turned_away number place ≡ counted_in ws ordinal register (admission ws (length register))
    go (early n) f h = let x : number ≡ n = cc in let y : place ≡ 0 = cc in rw (f, x, y) refl
    go (refused n p) f h = let x : number ≡ n = cc in let y : place ≡ p = cc in rw (f, x, y) refl
    go (accepted items left) f h = refused_not number place (sums_of (head_of ws).bands items) (sym h)
