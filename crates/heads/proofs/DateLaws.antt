-- A reporting date by its word as one number: a date that is not faulty is below every word of another kind and every negative amount.
-- Assumes nothing.
use Prim.Native.Nat.{ℕ, ◌≤◌}
use mathlib.Core.Path.{◌≡◌, refl}
use mathlib.Core.Bool.{Bool, true, false}
use mathlib.Core.List.{List}
use native.Mathlib.Omega.{arith}
use borrow.Author.Tests.{eqb-true, eqb-false, lt-ltb, ltb-false}
use lib.Dec.{eqb, ltb}
use Rattle.rules.specs.Word.{word, kind_of, payload_of}
use Rattle.rules.specs.Calendar.{last_date}
use Rattle.rules.specs.Read.{date_faulty, reporting_date}

module _ (ws : List ℕ) where
  abbrev w : ℕ
  w = word ws 2

  pub faulty_is : ltb last_date w ≡ date_faulty ws
  unfolding date_faulty
  faulty_is = go (eqb (kind_of w) 0) refl
    where
      go : (a : Bool) → eqb (kind_of w) 0 ≡ a → ltb last_date w ≡ date_faulty ws
      go true e = let h = eqb-true (kind_of w) 0 e in let p : payload_of w ≡ w = omega arith in rw (e, p)
      go false e = let h = eqb-false (kind_of w) 0 e in rw (e, lt-ltb last_date w (omega arith))

  pub faulty_date : date_faulty ws ≡ true → 0 ≡ reporting_date ws
  unfolding reporting_date
  faulty_date e = rw e

  module _ (e : date_faulty ws ≡ false) where
    pub good_within : w ≤ last_date
    good_within = ltb-false last_date w (rw (← faulty_is) at e)

    pub good_date : w ≡ reporting_date ws
    unfolding reporting_date
    good_date = rw e (omega (arith, good_within))
