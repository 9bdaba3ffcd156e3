-- One test of a word that is two others. Assumes nothing.
use Prim.Native.Nat.{ℕ, ◌/◌, ◌%◌, ◌^◌, ◌<◌}
use mathlib.Core.Path.{◌≡◌, refl, sym}
use mathlib.Core.Bool.{Bool, true, false, not, ◌&&◌, true≢false}
use native.Mathlib.Omega.{arith}
use borrow.Author.Tests.{eq-eqb, eqb-true, eqb-false, ne_eqb, le-leb, lt-leb, leb-true, leb-false, lt-ltb, le-ltb, ltb-true, ltb-false, not-true}
use lib.Dec.{eqb, leb, ltb}
use Rattle.rules.proofs.Lists.{and_left, and_right}
use Rattle.rules.specs.Word.{kind_of, payload_of, faulty_amount, faulty_days, minus_zero}

pub as_both : (t a b : Bool) → (t ≡ true → (a ≡ true) × (b ≡ true)) → (a ≡ true → b ≡ true → t ≡ true) → t ≡ (a && b)
as_both true a b f g = let h = f refl in simp (h.0, h.1)
as_both false true true f g = absurd (true≢false (sym (g refl refl)))
as_both false true false f g = refl
as_both false false b f g = refl

-- a head word of a kind whose payload is below a bound: as one test of all bits from there on. What is left to a caller is arithmetic of its own numbers.
module _ (w kind bound whole : ℕ) where
  pub head_is : (w / bound ≡ whole → (kind_of w ≡ kind) × (payload_of w < bound)) → (kind_of w ≡ kind → payload_of w < bound → w / bound ≡ whole)
      → eqb (w / bound) whole ≡ (eqb (kind_of w) kind && not (leb bound (payload_of w)))
  head_is f g =
      as_both (eqb (w / bound) whole) (eqb (kind_of w) kind) (not (leb bound (payload_of w)))
      (λ e. let h = f (eqb-true (w / bound) whole e) in (eq-eqb (kind_of w) kind h.0, simp (lt-leb bound (payload_of w) h.1)))
      (λ a b. eq-eqb (w / bound) whole (g (eqb-true (kind_of w) kind a) (leb-false bound (payload_of w) (not-true _ b))))

pub plain_is : (w : ℕ) → ltb w (2 ^ 27) ≡ (eqb (kind_of w) 0 && not (faulty_amount w))
plain_is w =
    as_both (ltb w (2 ^ 27)) (eqb (kind_of w) 0) (not (faulty_amount w))
    (λ e. let l = ltb-true w (2 ^ 27) e in (eq-eqb (w / 2 ^ 28) 0 (omega arith), simp (lt-leb (2 ^ 27) (w % 2 ^ 28) (omega arith))))
    (λ a b. let k = eqb-true (w / 2 ^ 28) 0 a in let l = leb-false (2 ^ 27) (w % 2 ^ 28) (not-true _ b) in lt-ltb w (2 ^ 27) (omega arith))

pub value_is : (w : ℕ) → (ltb w (2 ^ 28) && not (eqb w (2 ^ 27))) ≡ (eqb (kind_of w) 0 && not (minus_zero w))
value_is w =
    as_both (ltb w (2 ^ 28) && not (eqb w (2 ^ 27))) (eqb (kind_of w) 0) (not (minus_zero w))
    (λ e. let l = ltb-true w (2 ^ 28) (and_left (ltb w (2 ^ 28)) (not (eqb w (2 ^ 27))) e) in let n = eqb-false w (2 ^ 27) (not-true _ (and_right (ltb w (2 ^ 28)) (not (eqb w (2 ^ 27))) e)) in
    (eq-eqb (w / 2 ^ 28) 0 (omega arith), simp (ne_eqb (w % 2 ^ 28) (2 ^ 27) (λ z. n (omega arith)))))
    (λ a b. let k = eqb-true (w / 2 ^ 28) 0 a in let n = eqb-false (w % 2 ^ 28) (2 ^ 27) (not-true _ b) in
    simp (lt-ltb w (2 ^ 28) (omega arith), ne_eqb w (2 ^ 27) (λ z. n (omega arith))))

pub days_is : (w : ℕ) → leb w 65535 ≡ (eqb (kind_of w) 0 && not (faulty_days w))
days_is w =
    as_both (leb w 65535) (eqb (kind_of w) 0) (not (faulty_days w))
    (λ e. let l = leb-true w 65535 e in (eq-eqb (w / 2 ^ 28) 0 (omega arith), simp (le-ltb 65535 (w % 2 ^ 28) (omega arith))))
    (λ a b. let k = eqb-true (w / 2 ^ 28) 0 a in let l = ltb-false 65535 (w % 2 ^ 28) (not-true _ b) in le-leb w 65535 (omega arith))
