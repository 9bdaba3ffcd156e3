-- The head word of a derivative set with other marks. Assumes nothing.
use Prim.Native.Nat.{ℕ, ◌+◌, ◌-◌, ◌/◌, ◌%◌, ◌^◌, ◌<◌}
use mathlib.Core.Path.{◌≡◌, sym, ◌∙◌, ap}
use mathlib.Core.Bool.{◌||◌}
use native.Mathlib.Omega.{arith}
use borrow.Author.Tests.{lt-leb, leb-false}
use lib.Dec.{eqb, leb}
use lib.Pow.{low, field, mod-mod-pow}
use Rattle.rules.specs.Word.{kind_of, payload_of, bit_of, faulty_amount}
use Rattle.rules.specs.Faults.{cause, derivative_set_fault}
use Rattle.laws.proofs.Valid.{cause_none}
use Rattle.other_marks.specs.Marked.{mark_bits, settings, with_marks}

module _ (w m : ℕ) (l : m < settings) where
  -- it keeps its kind
  pub kind_kept : kind_of (with_marks w m) ≡ kind_of w
  kind_kept = omega arith

  -- the bits below are those of m
  same_below : (i : ℕ) → i < mark_bits → with_marks w m % 2 ^ (1 + i) ≡ m % 2 ^ (1 + i)
  same_below i h =
      let e : mark_bits - (1 + i) + (1 + i) ≡ mark_bits = omega arith in
      sym (mod-mod-pow (with_marks w m) (mark_bits - (1 + i)) (1 + i)) ∙ ap (λ (x : ℕ). x % 2 ^ (1 + i)) (rw e (low (w / settings) mark_bits l))

  -- and has just these marks
  pub mark_is : (i : ℕ) → i < mark_bits → bit_of i (with_marks w m) ≡ bit_of i m
  mark_is i h =
      ap (λ (x : ℕ). eqb x 1) (sym (field (with_marks w m) 1 i) ∙ ap (λ (x : ℕ). x / 2 ^ i) (same_below i h) ∙ field m 1 i)

  -- a head without a fault has none with other marks
  pub still_sound : (received paid posted : ℕ) → derivative_set_fault w received paid posted ≡ 0 → derivative_set_fault (with_marks w m) received paid posted ≡ 0
  unfolding derivative_set_fault cause
  still_sound received paid posted e =
      let a = cause_none 6 (leb settings (payload_of w)) (cause 8 (faulty_amount received || faulty_amount paid || faulty_amount posted) 0) e in
      let b = leb-false settings (payload_of w) a.0 in
      let c : payload_of (with_marks w m) < settings = omega arith in
      rw (lt-leb settings (payload_of (with_marks w m)) c) a.1

-- the marks that a head has
pub filed_marks : (w : ℕ) → (w % settings < settings) × (with_marks w (w % settings) ≡ w)
filed_marks w = (omega arith, omega arith)
