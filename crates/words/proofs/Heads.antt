-- A head word of a kind with a payload below a power of two, as one test of all its bits from there on. Assumes nothing.
use Prim.Native.Nat.{ℕ, ◌+◌, ◌-◌, ◌*◌, ◌/◌, ◌%◌, ◌^◌, ◌≤◌, ◌<◌}
use mathlib.Core.Path.{◌≡◌, sym, ◌∙◌, ap}
use mathlib.Core.Bool.{not, ◌&&◌}
use native.Mathlib.Omega.{arith}
use lib.Dec.{eqb, leb}
use Rattle.std.proofs.Math.Nat.{lt-div-mul-add, div-mul-le_self, mod-eq_of_lt, mul_assoc, pow-le-pow_right, mul-le-mul}
use Rattle.std.proofs.lemmas.Nat.{div-mul-add, pow-add, pow_pos}
use Rattle.rules.specs.declared.kinds.Kind.{Kind}
use Rattle.rules.specs.Numbers.{kind_number}
use Rattle.rules.specs.Word.{kind_of, payload_of}
use Rattle.words.proofs.Both.{head_is}

-- room times bound is 2 ^ 28
module _ (w kind bound room : ℕ) (pos : 0 < bound) (whole : room * bound ≡ 2 ^ 28) (fits : bound ≤ 2 ^ 28) where
  scaled : kind * room * bound ≡ kind * 2 ^ 28
  scaled = mul_assoc kind room bound ∙ ap (λ (x : ℕ). kind * x) whole

  parted : w / bound ≡ kind * room → (kind_of w ≡ kind) × (payload_of w < bound)
  parted e =
      let low : w / bound * bound ≤ w = div-mul-le_self w bound in
      let high : w < w / bound * bound + bound = lt-div-mul-add pos in
      let q : w / bound * bound ≡ kind * 2 ^ 28 = ap (λ (x : ℕ). x * bound) e ∙ scaled in
      (omega arith, omega arith)

  joined : kind_of w ≡ kind → payload_of w < bound → w / bound ≡ kind * room
  joined k l =
      let is : w ≡ kind * room * bound + payload_of w = omega (arith, scaled) in
      ap (λ (x : ℕ). x / bound) is ∙ div-mul-add (kind * room) bound (payload_of w) l

  pub head_scaled : eqb (w / bound) (kind * room) ≡ (eqb (kind_of w) kind && not (leb bound (payload_of w)))
  head_scaled = head_is w kind bound (kind * room) parted joined

kind_small : (k : Kind) → kind_number k ≤ 15
kind_small k = grind arith

pub whole_head : (w bits : ℕ) (k : Kind) → bits ≤ 28
    → eqb (w / 2 ^ bits) (kind_number k * 2 ^ (28 - bits) % 2 ^ 32) ≡ (eqb (kind_of w) (kind_number k) && not (leb (2 ^ bits) (payload_of w)))
whole_head w bits k h =
    let room = 2 ^ (28 - bits) in
    let all : 28 - bits + bits ≡ 28 = omega arith in
    let whole : room * 2 ^ bits ≡ 2 ^ 28 = sym (pow-add 2 (28 - bits) bits) ∙ ap (λ (x : ℕ). 2 ^ x) all in
    let fits : 2 ^ bits ≤ 2 ^ 28 = pow-le-pow_right (omega arith) h in
    let less : 28 - bits ≤ 28 = omega arith in
    let room_fits : room ≤ 2 ^ 28 = pow-le-pow_right (omega arith) less in
    let small : kind_number k * room ≤ 15 * 2 ^ 28 = mul-le-mul (kind_small k) room_fits in
    rw (mod-eq_of_lt {n = kind_number k * room} {m = 2 ^ 32} (omega (arith, small))) (head_scaled w (kind_number k) (2 ^ bits) room (pow_pos bits) whole fits)
