-- What stands where a protection is due, and the loop over the protections. Assumes nothing.
use Prim.Native.Nat.{ℕ, zero, suc, ◌+◌, ◌-◌, ◌≤◌, ◌<◌}
use mathlib.Core.Path.{◌≡◌, refl, sym, ◌∙◌, ap}
use mathlib.Core.List.{List}
use native.Mathlib.Omega.{arith}
use native.Mathlib.Numerals.{sub-one}
use borrow.Author.Tests.{le-leb, lt-leb, eq-eqb, ne_eqb}
use lib.ListN.{length}
use Rattle.rules.specs.Word.{word, kind_of}
use Rattle.rules.specs.Book.{Protection}
use Rattle.rules.specs.Faults.{protection_fault}
use Rattle.rules.specs.Run.{Turn, some, Run, then_run, run_from}
use Rattle.rules.specs.Read.{record_then, protection_at, protection_turn}
use Rattle.rules.proofs.Runs.{FineTurn}
use Rattle.laws.proofs.Protections.{Filled, protection_filled}
use Rattle.laws.proofs.MemberBounds.{per_word}
use Rattle.laws.proofs.ItemBounds.{nothing, fine_protection}
use Rattle.laws.proofs.Records.{amounts_at_lem}
use Rattle.records.specs.Step.{protection_cause}
use Rattle.records.proofs.Words.{record_faulty, record_good}
use Rattle.reading.specs.Steps.{upto, refused, protection_step, place_of}

-- ---- one protection

module _ (ws : List ℕ) (at : ℕ) where
  pub due_beyond : length ws ≤ at → refused 14 (length ws) ≡ protection_step (protection_turn ws at)
  unfolding protection_turn
  due_beyond h = simp (le-leb _ _ h)

  pub due_other : at < length ws → (k : ℕ) → k ≡ kind_of (word ws at) → (k ≡ 3 → ⊥) → refused 5 at ≡ protection_step (protection_turn ws at)
  unfolding protection_turn
  due_other h k q n = simp (lt-leb _ _ h, ne_eqb _ _ (λ z. n (q ∙ z)))

  module _ (h : at < length ws) (k : ℕ) (kq : k ≡ kind_of (word ws at)) (ke : k ≡ 3) (f : ℕ) (fq : f ≡ protection_cause ws at) where
    is_record : protection_turn ws at ≡ record_then ws at (protection_fault (word ws at) (word ws (at + 1)) (word ws (at + 2)) (word ws (at + 3))) (some (protection_at ws at) 0)
    unfolding protection_turn
    is_record = simp (lt-leb _ _ h, eq-eqb _ _ (sym kq ∙ ke))

    pub due_fault : (f ≡ 0 → ⊥) → refused f at ≡ protection_step (protection_turn ws at)
    due_fault n = rw fq (sym (ap protection_step (is_record ∙ record_faulty ws at 3 (amounts_at_lem _ (sym kq ∙ ke)) _ _ (λ z. n (fq ∙ z)))))

    pub due_good : f ≡ 0 → upto (at + 4) ≡ protection_step (protection_turn ws at)
    due_good z = sym (ap protection_step (is_record ∙ (record_good ws at 3 (amounts_at_lem _ (sym kq ∙ ke)) _ _ (sym fq ∙ z)).1))

-- ---- all of them

module _ (ws : List ℕ) (at : ℕ) (w : at ≤ length ws) where
  next_of : (t : Turn Protection) → Filled t → FineTurn (length ws) per_word nothing at t → (rest : ℕ → Run Protection) (next : ℕ) → protection_step t ≡ upto next
      → (next ≤ length ws) × (place_of (then_run t at rest) ≡ place_of (rest next))
  unfolding place_of
  next_of t Filled.bads f rest next e = let z : ◌≡◌ {A = ℕ} 0 1 = cc in absurd (omega arith)
  next_of t (Filled.somes {number = zero} {place}) f rest next e = let q : place ≡ next = cc in rw (← q) (f.1, refl)
  next_of t (Filled.somes {number = suc n}) f rest next e = let z : ◌≡◌ {A = ℕ} 0 1 = cc in absurd (omega arith)

  fault_of : (t : Turn Protection) → Filled t → (rest : ℕ → Run Protection) (number place : ℕ) → protection_step t ≡ refused number place → refused number place ≡ place_of (then_run t at rest)
  unfolding place_of
  fault_of t (Filled.bads {number = n}) rest number place e = sym e ∙ simp (ne_eqb (suc n) 0 (λ z. omega arith))
  fault_of t (Filled.somes {number = zero}) rest number place e = let z : ◌≡◌ {A = ℕ} 0 1 = cc in absurd (omega arith)
  fault_of t (Filled.somes {number = suc n}) rest number place e = sym e ∙ simp (ne_eqb (suc n) 0 (λ z. omega arith))

  pub goes_on : (left : ℕ) → 0 < left → (next : ℕ) → protection_step (protection_turn ws at) ≡ upto next
      → (next ≤ length ws) × (place_of (run_from (protection_turn ws) left at) ≡ place_of (run_from (protection_turn ws) (left - 1) next))
  unfolding run_from
  goes_on zero h next e = let z : ⊥ = omega arith in absurd z
  goes_on (suc left) h next e = rw (sub-one) (next_of (protection_turn ws at) (protection_filled ws at) (fine_protection ws at w) (run_from (protection_turn ws) left) next e)

  pub stops_at : (left : ℕ) → 0 < left → (number place : ℕ) → protection_step (protection_turn ws at) ≡ refused number place → refused number place ≡ place_of (run_from (protection_turn ws) left at)
  unfolding run_from
  stops_at zero h number place e = let z : ⊥ = omega arith in absurd z
  stops_at (suc left) h number place e = fault_of (protection_turn ws at) (protection_filled ws at) (run_from (protection_turn ws) left) number place e

  pub ends_here : (left : ℕ) → left ≤ 0 → upto at ≡ place_of (run_from (protection_turn ws) left at)
  unfolding run_from place_of
  ends_here zero h = refl
  ends_here (suc left) h = let z : ⊥ = omega arith in absurd z
