-- What further marks do to the counts of request A.12. The two books differ in marks wherever these stand, those of the chosen set too: they have no
-- part in its counts, since all of its settings are gone through. Assumes nothing.
use Rattle.std.specs.Prelude.{ℕ, ◌+◌, ◌≤◌, ◌≡◌, List, length}
use Rattle.rules.specs.declared.Entry.{Entry}
use Rattle.rules.specs.TwoDesks.{MoreRecognised}
use Rattle.settings.specs.Settings.{Counted, counting}

-- With more marks set already, in any words of the book: the same refusal, or no fewer settings that lead to verdict 0 or 2, and no fewer that lead to
-- verdict 2. (Fewer may lead to verdict 0: a setting that did may now leave no exposure.)
pub record NoFewer (a b : Counted) : Type 0 where
  pub number : a.number ≡ b.number
  pub place : a.place ≡ b.place
  pub good : a.met + a.no_exposure ≤ b.met + b.no_exposure
  pub empty : a.no_exposure ≤ b.no_exposure

abbrev pub MoreMarksNoFewer : Type 0
MoreMarksNoFewer =
    (xs ys : List ℕ) (ordinal : ℕ) (register register' : List Entry) → MoreRecognised xs ys → length register ≡ length register'
    → NoFewer (counting xs ordinal register) (counting ys ordinal register')
