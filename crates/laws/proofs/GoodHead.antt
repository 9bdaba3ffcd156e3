-- What a head that is not faulty is known by. Assumes nothing.
use Prim.Native.Nat.{ℕ, ◌≤◌}
use mathlib.Core.Path.{◌≡◌}
use mathlib.Core.Bool.{false, not, ◌||◌}
use mathlib.Core.List.{List}
use borrow.Author.Tests.{ltb-false, eqb-true, not-false}
use lib.Dec.{eqb, ltb}
use lib.ListN.{length}
use Rattle.rules.specs.Word.{word, kind_of, payload_of, minus_zero}
use Rattle.rules.specs.Read.{first_record, head_faulty, head_of}
use Rattle.rules.proofs.Lists.{or_left, or_right}

-- all its words are there, the first two are of the kinds of a head and of an amount, and there are at most 4,096 protections
pub record GoodHead (ws : List ℕ) : Type 0 where
  pub long : first_record ≤ length ws
  pub first : kind_of (word ws 0) ≡ 1
  pub few : (head_of ws).protections ≤ 4096
  pub second : kind_of (word ws 1) ≡ 0

pub good_head : (ws : List ℕ) → head_faulty ws ≡ false → GoodHead ws
unfolding head_faulty head_of
good_head ws e =
    let short = ltb (length ws) first_record in
    let other = not (eqb (kind_of (word ws 0)) 1) in
    let many = ltb 4096 (payload_of (word ws 0)) in
    let none = not (eqb (kind_of (word ws 1)) 0) in
    let d = or_left (short || other || many || none) (minus_zero (word ws 1)) e in
    let c = or_left (short || other || many) none d in
    let b = or_left (short || other) many c in
    record {
      long = ltb-false (length ws) first_record (or_left short other b);
      first = eqb-true _ 1 (not-false _ (or_right short other b));
      few = ltb-false 4096 (payload_of (word ws 0)) (or_right (short || other) many c);
      second = eqb-true _ 0 (not-false _ (or_right (short || other || many) none d));
    }
