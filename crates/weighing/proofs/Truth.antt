-- Five bits that are all 1. Assumes nothing.
use Prim.Native.Nat.{ℕ, ◌+◌, ◌*◌, ◌/◌, ◌%◌, ◌^◌, ◌<◌}
use mathlib.Core.Path.{◌≡◌, refl, sym, ◌∙◌, ap}
use mathlib.Core.Bool.{Bool, true, false, ◌&&◌}
use native.Mathlib.Nat.{div-one}
use native.Mathlib.Omega.{arith}
use borrow.Author.Tests.{eq-eqb, ne_eqb, eqb-true, eqb-false}
use lib.Dec.{eqb}
use lib.Pow.{mod-pow-add}
use Rattle.rules.specs.Word.{bit_of}

abbrev together : (a b d e f : ℕ) → ℕ
together a b d e f = 16 * f + 8 * e + 4 * d + 2 * b + a

module _ (a b d e f : ℕ) (la : a < 2) (lb : b < 2) (ld : d < 2) (le : e < 2) (lf : f < 2) where
  all_or_not : (p q r s t : Bool) → eqb a 1 ≡ p → eqb b 1 ≡ q → eqb d 1 ≡ r → eqb e 1 ≡ s → eqb f 1 ≡ t → eqb (together a b d e f) 31 ≡ (p && q && r && s && t)
  all_or_not true true true true true p q r s t =
      let all : together a b d e f ≡ 31 = omega (arith, eqb-true a 1 p, eqb-true b 1 q, eqb-true d 1 r, eqb-true e 1 s, eqb-true f 1 t) in
      eq-eqb _ _ all
  all_or_not false b' d' e' f' p q r s t = ne_eqb (together a b d e f) 31 (λ z. eqb-false a 1 p (omega arith))
  all_or_not true false d' e' f' p q r s t = ne_eqb (together a b d e f) 31 (λ z. eqb-false b 1 q (omega arith))
  all_or_not true true false e' f' p q r s t = ne_eqb (together a b d e f) 31 (λ z. eqb-false d 1 r (omega arith))
  all_or_not true true true false f' p q r s t = ne_eqb (together a b d e f) 31 (λ z. eqb-false e 1 s (omega arith))
  all_or_not true true true true false p q r s t = ne_eqb (together a b d e f) 31 (λ z. eqb-false f 1 t (omega arith))

chained : (five four three two one a b d e f : ℕ) → one ≡ a → two ≡ b * 2 + one → three ≡ d * 4 + two → four ≡ e * 8 + three → five ≡ f * 16 + four → five ≡ together a b d e f
chained five four three two one a b d e f p q r s t = omega arith

module _ (w : ℕ) where
  spread : w / 2 ^ 0 % 2 ^ 5 ≡ together (w / 2 ^ 0 % 2) (w / 2 ^ 1 % 2) (w / 2 ^ 2 % 2) (w / 2 ^ 3 % 2) (w / 2 ^ 4 % 2)
  spread =
      ap (λ (x : ℕ). x % 2 ^ 5) (div-one w)
      ∙ chained (w % 2 ^ 5) (w % 2 ^ 4) (w % 2 ^ 3) (w % 2 ^ 2) (w % 2 ^ 1) _ _ _ _ _ (ap (λ (x : ℕ). x % 2) (sym (div-one w)))
      (mod-pow-add w 1 1) (mod-pow-add w 1 2) (mod-pow-add w 1 3) (mod-pow-add w 1 4)

  pub five_bits : eqb (w / 2 ^ 0 % 2 ^ 5) 31 ≡ (bit_of 0 w && bit_of 1 w && bit_of 2 w && bit_of 3 w && bit_of 4 w)
  five_bits =
      ap (λ (x : ℕ). eqb x 31) spread
      ∙ all_or_not (w / 2 ^ 0 % 2) (w / 2 ^ 1 % 2) (w / 2 ^ 2 % 2) (w / 2 ^ 3 % 2) (w / 2 ^ 4 % 2) (omega arith) (omega arith) (omega arith) (omega arith) (omega arith)
      (bit_of 0 w) (bit_of 1 w) (bit_of 2 w) (bit_of 3 w) (bit_of 4 w) refl refl refl refl refl
