-- What is told where an item is due, by its kind: the causes of a head, and no item at all. Assumes nothing.
use Prim.Native.Nat.{ℕ, ◌≤◌, ◌<◌}
use mathlib.Core.Path.{◌≡◌, refl, sym, ◌∙◌, ap}
use mathlib.Core.Bool.{false, cond, true≢false}
use mathlib.Core.List.{List}
use native.Mathlib.Omega.{arith}
use borrow.Author.Tests.{le-leb}
use lib.ListN.{length, drop}
use Rattle.rules.specs.declared.Bands.{Bands}
use Rattle.rules.specs.declared.Sums.{Sums}
use Rattle.rules.specs.Word.{word, kind_of, amounts_of_kind}
use Rattle.rules.specs.Book.{Item}
use Rattle.rules.specs.Run.{Turn, bad}
use Rattle.rules.specs.Read.{lacks, record_then, stands, derivative_set_turn, item_of, item_turn}
use Rattle.laws.proofs.Records.{amounts_at_lem, stands_there}
use Rattle.records.proofs.Words.{record_faulty}
use Rattle.weighing.specs.Words.{set_cause}
use Rattle.reading.specs.Admission.{Refused}
use Rattle.reading.specs.Steps.{SumsUpTo}
use Rattle.reading.specs.Ahead.{ends_at, from_item}
use Rattle.reading.proofs.AheadLaws.{ahead_bad}
use Rattle.reading.proofs.ItemLaws.{part_at, from_is, Met, kind_here, of_kind_4, of_no_kind, halted}

-- ---- a head with a fault of its own

module _ (bands : Bands) {ws : List ℕ} {s : Sums} {at : ℕ} (number : ℕ) (n : number ≡ 0 → ⊥) where
  pub record_halts : {k : ℕ} → Met ws s at k → (k ≡ 15 → ⊥) → (f : ℕ) (next : ℕ → Turn Item) → item_of (drop at ws) ≡ record_then (drop at ws) 0 f next
      → number ≡ cond (lacks (amounts_of_kind k (word (drop at ws) 0)) (drop at ws) 0) 6 f → from_item bands ws s at ≡ ends_at (Refused number at)
  record_halts {k} m ke f next is q =
      halted bands m ke number n (is ∙ record_faulty (drop at ws) 0 (amounts_of_kind k (word (drop at ws) 0)) (amounts_at_lem _ (kind_here m)) f next (λ z. n (q ∙ z)) ∙ ap (λ (x : ℕ). bad x 0) (sym q))

  pub set_halts : Met ws s at 4 → number ≡ set_cause (part_at ws at) → from_item bands ws s at ≡ ends_at (Refused number at)
  unfolding derivative_set_turn
  set_halts m q = record_halts m (λ z. omega arith) _ _ (of_kind_4 _ (kind_here m)) (q ∙ ap set_cause (from_is ws at))

-- ---- no item

module _ (bands : Bands) (ws : List ℕ) (s : Sums) (at : ℕ) (f : SumsUpTo ws s at) where
  -- behind the last word
  pub beyond : length ws ≤ at → from_item bands ws s at ≡ ends_at (Refused 14 (length ws))
  unfolding item_turn
  beyond h = ahead_bad bands ws s at f.readable.within 14 (length ws) (λ z. omega arith) (simp (le-leb _ _ h))

  -- a kind that is none of an item
  pub no_item : at < length ws → (k : ℕ) → k ≡ kind_of (word ws at) → (k ≡ 2 → ⊥) → (k ≡ 4 → ⊥) → (k ≡ 8 → ⊥) → (k ≡ 10 → ⊥) → (k ≡ 15 → ⊥)
      → from_item bands ws s at ≡ ends_at (Refused 5 at)
  no_item h k q two four eight ten end =
      let m : Met ws s at k = record { sums_up_to = f; here = h; kind = sym q } in
      halted bands m end 5 (λ z. omega arith) (of_no_kind (drop at ws) k (sym (kind_here m)) two four eight ten)

  -- no record of a kind that is one
  pub none_stands : at < length ws → stands 2 ws at ≡ false → stands 4 ws at ≡ false → stands 8 ws at ≡ false → stands 10 ws at ≡ false → stands 15 ws at ≡ false
      → from_item bands ws s at ≡ ends_at (Refused 5 at)
  none_stands h two four eight ten end = no_item h (kind_of (word ws at)) refl (other 2 two) (other 4 four) (other 8 eight) (other 10 ten) (other 15 end)
    where
      other : (k : ℕ) → stands k ws at ≡ false → kind_of (word ws at) ≡ k → ⊥
      other k e z = true≢false (sym (stands_there ws at k _ h refl z) ∙ e)
