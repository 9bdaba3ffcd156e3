-- A plain amount is 0 where the whole word is. Assumes nothing.
use Prim.Native.Nat.{ℕ, ◌%◌, ◌^◌}
use mathlib.Core.Path.{◌≡◌, refl, ◌∙◌}
use mathlib.Core.Bool.{Bool, true, false, not, ◌&&◌}
use native.Mathlib.Omega.{arith}
use borrow.Author.Tests.{ltb-true}
use lib.Dec.{eqb}
use Rattle.rules.specs.Word.{size_of}
use Rattle.words.proofs.Both.{plain_is}
use Rattle.records.specs.Step.{plain_amount}

-- of a plain amount the whole word is the size
pub whole_amount : (w : ℕ) → (plain_amount w && not (eqb w 0)) ≡ (plain_amount w && not (eqb (size_of w) 0))
whole_amount w = go (plain_amount w) refl
  where
    go : (b : Bool) → plain_amount w ≡ b → (b && not (eqb w 0)) ≡ (b && not (eqb (size_of w) 0))
    go true e =
        let l = ltb-true w (2 ^ 27) (plain_is w ∙ e) in
        let same : w % 2 ^ 27 ≡ w = omega arith in
        rw same
    go false e = refl
