-- Two books that differ in marks at most: they have one shape, and the amounts behind a place are the same. Assumes nothing.
use Prim.Native.Nat.{ℕ, suc, ◌+◌, ◌-◌, ◌≤◌, ◌<◌}
use mathlib.Core.Path.{◌≡◌, refl, ap, subst}
use mathlib.Core.Bool.{Bool, true, false, cond}
use mathlib.Core.List.{List}
use native.Mathlib.Omega.{arith}
use borrow.Author.Tests.{eqb-true}
use lib.Dec.{eqb}
use lib.ListN.{length, take, drop}
use Rattle.rules.specs.Word.{word, kind_of, size_of, marks_of_kind}
use Rattle.rules.specs.Read.{lacks, last_days_at}
use Rattle.rules.specs.TwoDesks.{MoreMarks, MoreRecognised}
use Rattle.laws.proofs.Records.{lacks_room}
use Rattle.cuts.proofs.Amounts.{amount_kind, stretch_same}
use Rattle.cuts.specs.Words.{Shape, Wordwise}
use Rattle.cuts.proofs.Shape.{wordwise_map}
use Rattle.two_desks.proofs.Marks.{kind_same, same_shape, plain_kind}

-- such books are word for word of one shape, so what holds of two books of one shape holds of them
pub marked : {xs ys : List ℕ} → MoreRecognised xs ys → Wordwise MoreMarks xs ys
marked l = record { long = l.long; at = l.at }

pub shape : {xs ys : List ℕ} → Wordwise MoreMarks xs ys → Wordwise Shape xs ys
shape l = wordwise_map (λ _ _ m. same_shape m) l

module _ (xs ys : List ℕ) (l : Wordwise MoreMarks xs ys) where
  -- a word of a kind that has no marks
  pub word_same : (at k : ℕ) → kind_of (word xs at) ≡ k → marks_of_kind k ≡ 0 → word xs at ≡ word ys at
  word_same at k e z = plain_kind (l.at at) k e z

  -- an amount behind a record's first word
  pub amount_same : (n at : ℕ) → lacks n xs at ≡ false → (k : ℕ) → k < n → word xs (at + suc k) ≡ word ys (at + suc k)
  amount_same n at e k h = word_same (at + suc k) 0 (amount_kind n xs at e k h) refl

  -- a stretch of the amounts behind a place
  pub amounts_same : (n at from count : ℕ) → at < length xs → lacks n xs at ≡ false → at < from → from + count ≤ suc (at + n) → take count (drop from xs) ≡ take count (drop from ys)
  amounts_same n at from count there e h m =
      let r = lacks_room n xs at e there in
      stretch_same count xs ys from from (omega arith) (omega (arith, l.long))
      (λ i o.
      let p : at + suc (from + i - suc at) ≡ from + i = omega arith in
      subst (λ (j : ℕ). word xs j ≡ word ys j) p (amount_same n at e (from + i - suc at) (omega arith)))

  -- what looks at a word only where it is of a kind that has no marks, such as an amount
  pub by_kind : {A : Type 0} (at k : ℕ) → marks_of_kind k ≡ 0 → (f : Bool → ℕ → A) → ((v w : ℕ) → f false v ≡ f false w)
      → f (eqb (kind_of (word xs at)) k) (word xs at) ≡ f (eqb (kind_of (word ys at)) k) (word ys at)
  by_kind at k z f none = rw (← kind_same (l.at at)) (go (eqb (kind_of (word xs at)) k) refl)
    where
      go : (a : Bool) → eqb (kind_of (word xs at)) k ≡ a → f a (word xs at) ≡ f a (word ys at)
      go true e = ap (f true) (word_same at k (eqb-true _ k e) z)
      go false e = none (word xs at) (word ys at)

  pub last_days_same : (at : ℕ) → last_days_at xs at ≡ last_days_at ys at
  last_days_same at = by_kind (at - 1) 0 refl (λ (a : Bool) (w : ℕ). cond a (size_of w) 0) (λ v w. refl)
