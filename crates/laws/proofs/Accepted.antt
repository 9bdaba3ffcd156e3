-- What an accepted book is known by: it is read without a fault, and its covers all fit. And the number is 0 just where a book is accepted.
-- Assumes nothing.
use Prim.Native.Nat.{ℕ, zero, suc, ◌^◌}
use mathlib.Core.Path.{◌≡◌, refl}
use mathlib.Core.Bool.{Bool, true, false, cond}
use mathlib.Core.List.{List, [], ◌∷◌, map}
use native.Mathlib.Omega.{arith}
use borrow.Author.Tests.{ltb-false, le-ltb, eqb-true, ne_eqb}
use lib.Dec.{eqb, ltb}
use lib.ListN.{length}
use Rattle.rules.specs.declared.Draw.{Draw}
use Rattle.rules.specs.declared.Entry.{Entry}
use Rattle.rules.specs.Book.{Placed}
use Rattle.rules.specs.Run.{Run}
use Rattle.rules.specs.Read.{head_faulty, date_faulty, head_of, protections_of, items_of}
use Rattle.rules.specs.Register.{entry_of, draws_over, draw_fault, drawn, Settled, unfit, settled, if_fit, settle}
use Rattle.rules.specs.Filing.{Outcome, early, refused, accepted, judged, records_outcome, admission, outcome_of}
use Rattle.laws.specs.ReadAs.{ReadAs}

pub record Accepted (ws : List ℕ) (rows entries : ℕ) (items : List Placed) (left : List Entry) : Type 0 where
  pub reading : ReadAs ws rows entries items
  pub fits : settle (map entry_of (protections_of ws).records) (draws_over items) ≡ settled left

-- an outcome of another form
early_not : {X : Type 0} (number : ℕ) (items : List Placed) (left : List Entry) → early number ≡ accepted items left → X
early_not number items left e = let z : ◌≡◌ {A = ℕ} 0 1 = cc in absurd (omega arith)

-- the records: nothing is unfit, and the reading ends without a fault
judged_is : (r : Run Placed) (s : Settled) (items : List Placed) (left : List Entry)
    → judged r s ≡ accepted items left → (r.number ≡ 0) × (r.records ≡ items) × (s ≡ settled left)
judged_is r (unfit number place) items left e = let z : ◌≡◌ {A = ℕ} 0 1 = cc in absurd (omega arith)
judged_is r (settled entries) items left e = go (eqb r.number 0) refl e
  where
    go : (b : Bool) → eqb r.number 0 ≡ b → cond b (accepted r.records entries) (refused r.number r.place) ≡ accepted items left
        → (r.number ≡ 0) × (r.records ≡ items) × (settled entries ≡ settled left)
    go true t h = (eqb-true _ 0 t, cc, cc)
    go false t h = let z : ◌≡◌ {A = ℕ} 0 1 = cc in absurd (omega arith)

pub accepted_is : (ws : List ℕ) (rows entries : ℕ) (items : List Placed) (left : List Entry) → outcome_of ws rows entries ≡ accepted items left → Accepted ws rows entries items left
unfolding outcome_of admission records_outcome
accepted_is ws rows entries items left e = go (ltb rows 22) refl (ltb (2 ^ 20) (length ws)) refl (head_faulty ws) refl (date_faulty ws) refl (ltb entries (head_of ws).protections) refl e
  where
    go : (a : Bool) → ltb rows 22 ≡ a → (b : Bool) → ltb (2 ^ 20) (length ws) ≡ b → (c : Bool) → head_faulty ws ≡ c → (f : Bool) → date_faulty ws ≡ f → (d : Bool) → ltb entries (head_of ws).protections ≡ d
        → cond a (early 1) (cond b (early 2) (cond c (early 3) (cond f (early 16) (cond d (early 4) (records_outcome ws))))) ≡ accepted items left
        → Accepted ws rows entries items left
    go true p b q c r f t d s h = early_not 1 items left h
    go false p true q c r f t d s h = early_not 2 items left h
    go false p false q true r f t d s h = early_not 3 items left h
    go false p false q false r true t d s h = early_not 16 items left h
    go false p false q false r false t true s h = early_not 4 items left h
    go false p false q false r false t false s h =
        let j = judged_is (items_of ws) (settle (map entry_of (protections_of ws).records) (draws_over (items_of ws).records)) items left h in
        record {
          reading = record {
            rows_enough = ltb-false rows 22 p;
            short = ltb-false (2 ^ 20) (length ws) q;
            head = r;
            date = t;
            room = ltb-false entries _ s;
            number = j.0;
            read = j.1;
          };
          fits = rw j.1 at j.2;
        }

-- and back
pub is_accepted : (ws : List ℕ) (rows entries : ℕ) (items : List Placed) (left : List Entry) → Accepted ws rows entries items left → outcome_of ws rows entries ≡ accepted items left
unfolding outcome_of admission records_outcome
is_accepted ws rows entries items left a =
    let r = a.reading in
    rw (le-ltb rows 22 r.rows_enough, le-ltb (2 ^ 20) (length ws) r.short, r.head, r.date, le-ltb entries (head_of ws).protections r.room, r.read, a.fits, r.number) refl

-- ---- a refusal has a number that is not 0

pub data Numbered : Outcome → Type 0 where
  earlies : {number : ℕ} → Numbered (early (suc number))
  refusals : {number place : ℕ} → Numbered (refused (suc number) place)
  acceptances : {items : List Placed} {left : List Entry} → Numbered (accepted items left)

numbered_judged : (r : Run Placed) (entries : List Entry) (ds : List Draw) → Numbered (judged r (settle entries ds))
unfolding settle
numbered_judged r entries [] = go r.number
  where
    go : (n : ℕ) → Numbered (cond (eqb n 0) (accepted r.records entries) (refused n r.place))
    go zero = acceptances
    go (suc n) = rw (ne_eqb (suc n) 0 (λ e. omega arith)) refusals
numbered_judged r entries (d ∷ ds) = go (draw_fault entries d) (numbered_judged r (drawn entries d) ds)
  where
    go : (f : ℕ) → Numbered (judged r (settle (drawn entries d) ds)) → Numbered (judged r (if_fit f d.at (settle (drawn entries d) ds)))
    go zero h = h
    go (suc f) h = refusals

pub numbered : (ws : List ℕ) (rows entries : ℕ) → Numbered (outcome_of ws rows entries)
unfolding outcome_of admission records_outcome
numbered ws rows entries =
    choose (ltb rows 22) earlies
    (choose (ltb (2 ^ 20) (length ws)) earlies
    (choose (head_faulty ws) earlies
    (choose (date_faulty ws) earlies
    (choose (ltb entries (head_of ws).protections) earlies
    (numbered_judged (items_of ws) (map entry_of (protections_of ws).records) (draws_over (items_of ws).records))))))
  where
    choose : (b : Bool) {o p : Outcome} → Numbered o → Numbered p → Numbered (cond b o p)
    choose true g h = g
    choose false g h = h
