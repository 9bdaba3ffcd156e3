-- The protections that the settling loads are those that the reading reads: all of them, or one is faulty and there is nothing to
-- draw. Assumes nothing.
use Prim.Native.Nat.{ℕ, zero, suc, ◌+◌}
use mathlib.Core.Path.{◌≡◌, refl, ap}
use mathlib.Core.Bool.{Bool, true, false, not, cond}
use mathlib.Core.List.{List, ◌∷◌, map}
use native.Mathlib.Omega.{arith}
use borrow.Author.Tests.{eqb-true, ne_eqb}
use lib.Dec.{eqb, leb}
use lib.ListN.{length}
use Rattle.rules.specs.declared.Entry.{Entry}
use Rattle.rules.specs.Word.{word, kind_of}
use Rattle.rules.specs.Book.{Protection, Placed}
use Rattle.rules.specs.Faults.{protection_fault}
use Rattle.rules.specs.Run.{Turn, bad, some, Run, ended, then_run, run_from, sound}
use Rattle.rules.specs.Read.{first_record, head_of, lacks, record_then, protection_at, protection_turn, protections_of, items_after, items_of}
use Rattle.rules.specs.Register.{entry_of, draws_over, settle}
use Rattle.rules.specs.Filing.{judged, records_outcome}
use Rattle.register.specs.Loading.{protection_place, loaded_from}

-- ---- one protection

-- what stands where a protection is due: a fault, or that protection
data Due (ws : List ℕ) (at : ℕ) : Turn Protection → Type 0 where
  fault : {number place : ℕ} → Due ws at (bad (suc number) place)
  good : Due ws at (some (protection_at ws at) 0 (at + 4))

due : (ws : List ℕ) (at : ℕ) → Due ws at (protection_turn ws at)
unfolding protection_turn record_then
due ws at = go (leb (length ws) at) (eqb (kind_of (word ws at)) 3) refl
  where
    own : (f : ℕ) → Due ws at (sound f at (some (protection_at ws at) 0 (at + 4)))
    own zero = good
    own (suc f) = fault

    words : (b : Bool) (f : ℕ) → Due ws at (cond b (bad 6 at) (sound f at (some (protection_at ws at) 0 (at + 4))))
    words true f = fault
    words false f = own f

    go : (x y : Bool) → eqb (kind_of (word ws at)) 3 ≡ y
        → Due ws at (cond x (bad 14 (length ws)) (cond (not y) (bad 5 at) (record_then ws at (protection_fault (word ws at) (word ws (at + 1)) (word ws (at + 2)) (word ws (at + 3))) (some (protection_at ws at) 0))))
    go true y f = fault
    go false false f = fault
    go false true f = rw (eqb-true (kind_of (word ws at)) 3 f) (words (lacks 3 ws at) (protection_fault (word ws at) (word ws (at + 1)) (word ws (at + 2)) (word ws (at + 3))))

-- ---- all of them

-- with their entries, or a fault
data AllDue (ws : List ℕ) (k i : ℕ) (r : Run Protection) : Type 0 where
  faulty_one : {number : ℕ} → r.number ≡ suc number → AllDue ws k i r
  all_good : r.number ≡ 0 → map entry_of r.records ≡ loaded_from ws k i → AllDue ws k i r

all_due : (ws : List ℕ) (k i : ℕ) → AllDue ws k i (run_from (protection_turn ws) k (protection_place i))
unfolding run_from loaded_from
all_due ws zero i = all_good refl refl
all_due ws (suc k) i = go (protection_turn ws (protection_place i)) (due ws (protection_place i)) (all_due ws k (suc i))
  where
    go : (t : Turn Protection) → Due ws (protection_place i) t → AllDue ws k (suc i) (run_from (protection_turn ws) k (protection_place (suc i))) → AllDue ws (suc k) i (then_run t (protection_place i) (run_from (protection_turn ws) k))
    go t fault r = faulty_one refl
    go t good r = rest (protection_place i + 4) (omega arith) r
      where
        rest : (next : ℕ) → next ≡ protection_place (suc i) → AllDue ws k (suc i) (run_from (protection_turn ws) k (protection_place (suc i)))
            → AllDue ws (suc k) i (then_run (some (protection_at ws (protection_place i)) 0 next) (protection_place i) (run_from (protection_turn ws) k))
        rest next q r = rw q (turned r)
          where
            turned : AllDue ws k (suc i) (run_from (protection_turn ws) k (protection_place (suc i)))
                → AllDue ws (suc k) i (then_run (some (protection_at ws (protection_place i)) 0 (protection_place (suc i))) (protection_place i) (run_from (protection_turn ws) k))
            turned (faulty_one e) = faulty_one e
            turned (all_good e m) = all_good e (ap (λ (es : List Entry). entry_of (protection_at ws (protection_place i)) ∷ es) m)

-- ---- the outcome

-- a fault in the protections: there are no draws, and the entries do not matter
no_draws : (number place : ℕ) (r : Run Placed) → r ≡ ended (suc number) place → (es es' : List Entry)
    → judged r (settle es (draws_over r.records)) ≡ judged r (settle es' (draws_over r.records))
unfolding draws_over settle
no_draws number place r q es es' = rw q (simp (ne_eqb (suc number) 0 (λ z. omega arith)))

-- the records of a book, with the entries that the settling loads
pub records_are : (ws : List ℕ) → records_outcome ws ≡ judged (items_of ws) (settle (loaded_from ws (head_of ws).protections 0) (draws_over (items_of ws).records))
unfolding records_outcome items_of protections_of
records_are ws = go (run_from (protection_turn ws) (head_of ws).protections first_record) (all_due ws (head_of ws).protections 0)
  where
    go : (r : Run Protection) → AllDue ws (head_of ws).protections 0 r
        → judged (items_after ws r) (settle (map entry_of r.records) (draws_over (items_after ws r).records))
        ≡ judged (items_after ws r) (settle (loaded_from ws (head_of ws).protections 0) (draws_over (items_after ws r).records))
    go r (faulty_one {number = n} e) =
        no_draws n r.place (items_after ws r) (simp (e, ne_eqb (suc n) 0 (λ z. omega arith))) (map entry_of r.records) (loaded_from ws (head_of ws).protections 0)
    go r (all_good e m) = rw m
