-- Two words that differ in marks at most: their kinds are the same, and so is all above the marks. Assumes nothing.
use Prim.Native.Nat.{ℕ, ◌+◌, ◌-◌, ◌/◌, ◌%◌, ◌^◌, ◌≤◌, ◌<◌}
use mathlib.Core.Path.{◌≡◌, refl, sym, ◌∙◌, ap}
use mathlib.Core.Bool.{Bool, true, false}
use native.Mathlib.Omega.{arith}
use native.Mathlib.Nat.{le-div_iff_mul-le}
use borrow.Author.Tests.{leb-true, leb-false, eqb-true, eq-eqb}
use lib.Dec.{leb, eqb}
use lib.Pow.{shr-shr, field, pow_pos}
use Rattle.rules.specs.Word.{kind_of, payload_of, bit_of, marks_by_kind, marks_of_kind, marks_in}
use Rattle.rules.proofs.Lists.{table_at_most}
use Rattle.rules.specs.TwoDesks.{MoreMarks}
use Rattle.cuts.specs.Words.{Shape}
use Rattle.cuts.proofs.Shape.{names_shape}

-- a word has at most six marks
pub marks_most : (w : ℕ) → marks_in w ≤ 6
marks_most w = table_at_most 6 marks_by_kind refl (kind_of w)

module _ {a b : ℕ} (m : MoreMarks a b) where
  -- from the marks up the bits are the same
  pub above_same : (k : ℕ) → marks_in a ≤ k → a / 2 ^ k ≡ b / 2 ^ k
  above_same k h =
      let e : marks_in a + (k - marks_in a) ≡ k = omega arith in
      let x = shr-shr a (marks_in a) (k - marks_in a) in
      let y = shr-shr b (marks_in a) (k - marks_in a) in
      ap (λ (n : ℕ). a / 2 ^ n) (sym e) ∙ sym x ∙ ap (λ (n : ℕ). n / 2 ^ (k - marks_in a)) m.above ∙ y ∙ ap (λ (n : ℕ). b / 2 ^ n) e

  pub kind_same : kind_of a ≡ kind_of b
  kind_same = above_same 28 (omega (arith, marks_most a))

  -- and so are a basket's names, whose bits are above the marks of any word
  pub same_shape : Shape a b
  same_shape = names_shape a b kind_same (ap (λ (n : ℕ). n % 2 ^ 6) (above_same 6 (marks_most a)))

  -- a word without marks is the same
  pub plain : marks_in a ≡ 0 → a ≡ b
  plain e = omega (arith, above_same 0 (omega arith))

  pub plain_kind : (k : ℕ) → kind_of a ≡ k → marks_of_kind k ≡ 0 → a ≡ b
  plain_kind k e z = plain (ap marks_of_kind e ∙ z)

  -- a bit above the marks is the same, and one of the marks stays set
  pub bit_same : (k : ℕ) → marks_in a ≤ k → bit_of k a ≡ bit_of k b
  bit_same k h = ap (λ (n : ℕ). eqb (n % 2) 1) (above_same k h)

  pub mark_kept : (k : ℕ) → k < marks_in a → bit_of k a ≡ true → bit_of k b ≡ true
  mark_kept k h e = eq-eqb (b / 2 ^ k % 2) 1 (omega (arith, eqb-true (a / 2 ^ k % 2) 1 e, m.kept k h))

  -- a payload has bits from j on, or not
  pub payload_same : (j : ℕ) → marks_in a ≤ j → j ≤ 28 → leb (2 ^ j) (payload_of a) ≡ leb (2 ^ j) (payload_of b)
  payload_same j h l = test (payload_of a) (payload_of b) high
    where
      e : 28 - j + j ≡ 28
      e = omega arith

      part : (w : ℕ) → payload_of w / 2 ^ j ≡ w / 2 ^ j % 2 ^ (28 - j)
      part w = ap (λ (n : ℕ). w % 2 ^ n / 2 ^ j) (sym e) ∙ field w (28 - j) j

      high : payload_of a / 2 ^ j ≡ payload_of b / 2 ^ j
      high = part a ∙ ap (λ (n : ℕ). n % 2 ^ (28 - j)) (above_same j h) ∙ sym (part b)

      has : (p : ℕ) → 2 ^ j ≤ p → 1 ≤ p / 2 ^ j
      has p q = (le-div_iff_mul-le (pow_pos j)).1 (omega arith)

      has_not : (p : ℕ) → 1 ≤ p / 2 ^ j → 2 ^ j ≤ p
      has_not p q = let r = (le-div_iff_mul-le (pow_pos j)).0 q in omega arith

      test : (p q : ℕ) → p / 2 ^ j ≡ q / 2 ^ j → leb (2 ^ j) p ≡ leb (2 ^ j) q
      test p q d = go (leb (2 ^ j) p) refl (leb (2 ^ j) q) refl
        where
          go : (x : Bool) → leb (2 ^ j) p ≡ x → (y : Bool) → leb (2 ^ j) q ≡ y → x ≡ y
          go true u true v = refl
          go false u false v = refl
          go true u false v = let z = has_not q (rw d at (has p (leb-true _ _ u))) in let y = leb-false (2 ^ j) q v in let w : ⊥ = omega arith in absurd w
          go false u true v = let z = has_not p (rw (← d) at (has q (leb-true _ _ v))) in let y = leb-false (2 ^ j) p u in let w : ⊥ = omega arith in absurd w
