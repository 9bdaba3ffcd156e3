-- What lies ahead where an item is due, by what stands there. Assumes nothing.
use Prim.Native.Nat.{ℕ, suc, ◌≤◌, ◌<◌}
use mathlib.Core.Path.{◌≡◌, ◌∙◌, ap}
use mathlib.Core.List.{List, []}
use native.Mathlib.Omega.{arith}
use native.Mathlib.Nat.{add_assoc, add-zero}
use borrow.Author.Tests.{ne_eqb}
use lib.ListN.{length}
use Rattle.rules.specs.declared.Bands.{Bands}
use Rattle.rules.specs.declared.Sums.{Sums}
use Rattle.rules.specs.Book.{Placed}
use Rattle.rules.specs.Run.{Turn, over, bad, some, Run, with_one, then_run, run_from}
use Rattle.rules.specs.Read.{item_turn}
use Rattle.rules.specs.Register.{draws_in, draws_over}
use Rattle.rules.specs.Rows.{sums_of}
use Rattle.rules.proofs.Runs.{FineTurn, run_on}
use Rattle.laws.proofs.MemberBounds.{per_word}
use Rattle.laws.proofs.ItemBounds.{placed_weight, fine_item_turn}
use Rattle.laws.proofs.ItemRows.{rows_at_most}
use Rattle.records.specs.Sums.{plus, SumsRoomy}
use Rattle.records.specs.Step.{plus_item}
use Rattle.reading.specs.Admission.{Admitted, Refused}
use Rattle.reading.specs.Steps.{all_sums, SumsUpTo}
use Rattle.reading.specs.Ahead.{ends_at, after, items_ahead, from_item}

-- the sums of a place leave room for an item
pub sums_roomy : {ws : List ℕ} {s : Sums} {at : ℕ} → SumsUpTo ws s at → SumsRoomy s
unfolding all_sums
sums_roomy f =
    let w = f.readable.within in
    let h = f.readable.short in
    let l = f.small in
    record {
      assets = omega arith;
      deducted = omega arith;
      replacement = omega arith;
      weighted = omega arith;
      posted = omega arith;
      offset = omega arith;
      exempt = omega arith;
      written = omega arith;
      covered = omega arith;
      financed = omega arith;
      netted = omega arith;
      principal = omega arith;
      agent = omega arith;
      committed = omega arith;
      unconverted = omega arith;
    }

-- what is added to sums is no larger than both
pub more_roomy : (s t : Sums) → SumsRoomy (plus s t) → SumsRoomy t
more_roomy s t h = record {
  assets = omega (arith, h.assets);
  deducted = omega (arith, h.deducted);
  replacement = omega (arith, h.replacement);
  weighted = omega (arith, h.weighted);
  posted = omega (arith, h.posted);
  offset = omega (arith, h.offset);
  exempt = omega (arith, h.exempt);
  written = omega (arith, h.written);
  covered = omega (arith, h.covered);
  financed = omega (arith, h.financed);
  netted = omega (arith, h.netted);
  principal = omega (arith, h.principal);
  agent = omega (arith, h.agent);
  committed = omega (arith, h.committed);
  unconverted = omega (arith, h.unconverted);
}

-- one item more: its draws, and then what lies ahead on top of the sums with it
with_one_lem : (bands : Bands) (s : Sums) (p : Placed) (r : Run Placed) → items_ahead bands s (with_one p r) ≡ after (draws_in p.begin p.item) (items_ahead bands (plus_item bands s p.item) r)
unfolding draws_over sums_of
with_one_lem bands s p r = simp add_assoc

module _ (bands : Bands) (ws : List ℕ) (s : Sums) (at : ℕ) (w : at ≤ length ws) where
  by_turn : (t : Turn Placed) → item_turn ws at ≡ t → from_item bands ws s at ≡ items_ahead bands s (then_run t at (run_from (item_turn ws) (suc (length ws))))
  unfolding from_item
  by_turn t e =
      ap (items_ahead bands s) (run_on (length ws) per_word (placed_weight bands) (item_turn ws) (fine_item_turn bands ws) at w)
      ∙ ap (λ (x : Turn Placed). items_ahead bands s (then_run x at (run_from (item_turn ws) (suc (length ws))))) e

  -- the end word
  pub ahead_over : item_turn ws at ≡ over → from_item bands ws s at ≡ ends_at (Admitted s)
  unfolding draws_over sums_of
  ahead_over e = by_turn over e ∙ simp add-zero

  -- a fault
  pub ahead_bad : (number place : ℕ) → (number ≡ 0 → ⊥) → item_turn ws at ≡ bad number place → from_item bands ws s at ≡ ends_at (Refused number place)
  unfolding draws_over
  ahead_bad number place n e = by_turn (bad number place) e ∙ simp (ne_eqb number 0 n)

  -- a fault inside an item, behind some of its draws
  pub ahead_broken : (p : Placed) (number place : ℕ) → item_turn ws at ≡ some p (suc number) place
      → from_item bands ws s at ≡ after (draws_in p.begin p.item) (ends_at (Refused (suc number) place))
  unfolding draws_over
  ahead_broken p number place e = by_turn (some p (suc number) place) e ∙ simp (ne_eqb (suc number) 0 (λ z. omega arith))

  -- an item
  pub ahead_some : (p : Placed) (next : ℕ) → item_turn ws at ≡ some p 0 next → from_item bands ws s at ≡ after (draws_in p.begin p.item) (from_item bands ws (plus_item bands s p.item) next)
  unfolding from_item
  ahead_some p next e = by_turn (some p 0 next) e ∙ with_one_lem bands s p (run_from (item_turn ws) (suc (length ws)) next)

-- items without a fault lead from a place and its sums to one further on: what lies ahead is the same
pub record Onward (bands : Bands) (ws : List ℕ) (s : Sums) (from : ℕ) (sums : Sums) (next : ℕ) : Type 0 where
  pub same : from_item bands ws s from ≡ from_item bands ws sums next
  pub sums_up_to : SumsUpTo ws sums next
  pub further : from < next

-- an item without draws
pub onward : (bands : Bands) (ws : List ℕ) (s : Sums) (at : ℕ) → SumsUpTo ws s at → (p : Placed) (next : ℕ) → item_turn ws at ≡ some p 0 next → draws_in p.begin p.item ≡ []
    → Onward bands ws s at (plus_item bands s p.item) next
unfolding all_sums
onward bands ws s at f p next e d =
    let w = f.readable.within in
    let fine : FineTurn (length ws) per_word (placed_weight bands) at (some p 0 next) = rw e at (fine_item_turn bands ws at w) in
    let small = f.small in
    record {
      same = rw d at (ahead_some bands ws s at w p next e);
      sums_up_to = record { readable = record { within = fine.1; short = f.readable.short }; small = omega (arith, fine.2, rows_at_most bands p.item) };
      further = fine.0;
    }
