-- What is answered where an item is due: a set's head and the end word, unless they have a fault. Assumes nothing.
use Prim.Native.Nat.{ℕ, zero, suc}
use mathlib.Core.Path.{◌≡◌, refl, sym, ◌∙◌, ap}
use mathlib.Core.List.{List}
use borrow.Author.Tests.{lt-leb}
use Rattle.std.specs.Prelude.{Ok}
use Rattle.rules.specs.declared.Bands.{Bands}
use Rattle.rules.specs.declared.Sums.{Sums}
use Rattle.rules.specs.Run.{Turn, over, bad, sound}
use Rattle.rules.specs.Read.{head_of, end_fault, item_turn}
use Rattle.rules.specs.Book.{Placed}
use Rattle.weighing.specs.Words.{set_cause}
use Rattle.reading.specs.Admission.{Refused}
use Rattle.reading.specs.declared.items.ItemAnswer.TheVariants as item
use Rattle.reading.specs.Ahead.{ends_at, from_item, AnswersItem}
use Rattle.reading.proofs.AheadLaws.{ahead_over, ahead_bad}
use Rattle.reading.proofs.ItemLaws.{part_at, from_is, Met}
use Rattle.reading.proofs.SetHead.{set_opens}

faulty : (n at : ℕ) → (n ≡ 0 → ⊥) → ◌≡◌ {A = Turn Placed} (sound n at over) (bad n at)
faulty zero at h = absurd (h refl)
faulty (suc n) at h = refl

module _ {ws : List ℕ} {s : Sums} {at : ℕ} where
  -- a derivative set
  pub set_answers : Met ws s at 4 → set_cause (part_at ws at) ≡ 0 → AnswersItem ws s at (Ok item.Set)
  set_answers m q =
      let z = ap set_cause (sym (from_is ws at)) ∙ q in
      ((λ bands. (set_opens bands m z).0), (set_opens (head_of ws).bands m z).1)

  -- the end word
  pub end_answers : Met ws s at 15 → end_fault ws at ≡ 0 → AnswersItem ws s at (Ok item.End)
  unfolding item_turn
  end_answers m q = ((λ bands. ahead_over bands ws s at m.sums_up_to.readable.within (simp (lt-leb _ _ m.here, m.kind, q))), tt)

  pub end_halts : (bands : Bands) → Met ws s at 15 → (number : ℕ) → (number ≡ 0 → ⊥) → number ≡ end_fault ws at → from_item bands ws s at ≡ ends_at (Refused number at)
  unfolding item_turn
  end_halts bands m number n q = ahead_bad bands ws s at m.sums_up_to.readable.within number at n (simp (lt-leb _ _ m.here, m.kind, ← q) (faulty number at n))
