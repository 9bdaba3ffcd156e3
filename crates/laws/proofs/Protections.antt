-- Where the reading ends without a fault, there are just as many protections as the head says. Assumes nothing.
use Prim.Native.Nat.{ℕ, zero, suc, ◌+◌}
use mathlib.Core.Path.{◌≡◌, refl, ap}
use mathlib.Core.Bool.{Bool, true, false, not, cond}
use mathlib.Core.List.{List}
use native.Mathlib.Omega.{arith}
use borrow.Author.Tests.{eqb-true}
use lib.Dec.{eqb, leb}
use lib.ListN.{length}
use Rattle.rules.specs.Word.{word, kind_of, amounts_in}
use Rattle.rules.specs.Book.{Protection}
use Rattle.rules.specs.Run.{Turn, bad, some, ended, then_run, run_from, sound}
use Rattle.rules.specs.Faults.{protection_fault}
use Rattle.rules.specs.Read.{first_record, head_of, lacks, record_then, protection_at, protection_turn, item_turn, protections_of, items_of}

-- a turn that always has a record, or a fault whose number is not 0
pub data Filled {A : Type 0} : Turn A → Type 0 where
  bads : {number place : ℕ} → Filled (bad (suc number) place)
  somes : {a : A} {number place : ℕ} → Filled (some a number place)

filled_run : {A : Type 0} (turn : ℕ → Turn A) → ((at : ℕ) → Filled (turn at)) → (k at : ℕ) → (run_from turn k at).number ≡ 0 → length (run_from turn k at).records ≡ k
unfolding run_from
filled_run turn h zero at e = refl
filled_run {A} turn h (suc k) at e = go (turn at) (h at) (λ next. filled_run turn h k next) e
  where
    go : (t : Turn A) → Filled t → ((next : ℕ) → (run_from turn k next).number ≡ 0 → length (run_from turn k next).records ≡ k)
        → (then_run t at (run_from turn k)).number ≡ 0 → length (then_run t at (run_from turn k)).records ≡ suc k
    go t bads r q = let z : ⊥ = omega arith in absurd z
    go t (somes {number = zero} {place}) r q = ap suc (r place q)
    go t (somes {number = suc n}) r q = let z : ⊥ = omega arith in absurd z

pub protection_filled : (ws : List ℕ) (at : ℕ) → Filled (protection_turn ws at)
unfolding protection_turn record_then
protection_filled ws at = if (leb (length ws) at) bads (if (not (eqb (kind_of (word ws at)) 3)) bads (if (lacks (amounts_in (word ws at)) ws at) bads (sounds (protection_fault (word ws at) (word ws (at + 1)) (word ws (at + 2)) (word ws (at + 3))))))
  where
    if : (b : Bool) {t u : Turn Protection} → Filled t → Filled u → Filled (cond b t u)
    if true g h = g
    if false g h = h

    sounds : (fault : ℕ) → Filled (sound fault at (some (protection_at ws at) 0 (at + suc (amounts_in (word ws at)))))
    sounds zero = somes
    sounds (suc fault) = bads

-- without a fault in the items there is none in the protections
pub no_fault_before : (ws : List ℕ) → (items_of ws).number ≡ 0 → (protections_of ws).number ≡ 0
unfolding items_of
no_fault_before ws e = go (eqb (protections_of ws).number 0) refl e
  where
    go : (b : Bool) → eqb (protections_of ws).number 0 ≡ b
        → (cond b (run_from (item_turn ws) (suc (length ws)) (protections_of ws).place) (ended (protections_of ws).number (protections_of ws).place)).number ≡ 0
        → (protections_of ws).number ≡ 0
    go true q h = eqb-true _ 0 q
    go false q h = h

pub protections_count : (ws : List ℕ) → (items_of ws).number ≡ 0 → length (protections_of ws).records ≡ (head_of ws).protections
unfolding protections_of
protections_count ws e = filled_run (protection_turn ws) (protection_filled ws) (head_of ws).protections first_record (no_fault_before ws e)
