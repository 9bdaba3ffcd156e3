-- Records one after the other from a place on, until the run is over or a record is faulty. Assumes nothing.
use Rattle.std.specs.Prelude.{ℕ, zero, suc, List, [], ◌∷◌}

-- what stands at a place: nothing more of this run; a faulty record; or a record, with the place after it and the number 0, or
-- with the number and the place of the fault inside it
pub data Turn (A : Type 0) : Type 0 where
  over : Turn A
  bad : (number place : ℕ) → Turn A
  some : A → (number place : ℕ) → Turn A

-- the records before the first fault, with its number and place; or all, with the number 0 and the place after the last
pub record Run (A : Type 0) : Type 0 where
  pub records : List A
  pub number : ℕ
  pub place : ℕ

module _ {A : Type 0} where
  abbrev pub ended : ℕ → ℕ → Run A
  ended number place = record { records = []; number = number; place = place }

  abbrev pub with_one : A → Run A → Run A
  with_one a r = record { records = a ∷ r.records; number = r.number; place = r.place }

  abbrev pub then_run : Turn A → ℕ → (ℕ → Run A) → Run A
  then_run over at rest = ended 0 at
  then_run (bad number place) at rest = ended number place
  then_run (some a zero next) at rest = with_one a (rest next)
  then_run (some a (suc number) place) at rest = with_one a (ended (suc number) place)

  -- at most so many records from a place on
  unfoldable pub run_from : (ℕ → Turn A) → (most at : ℕ) → Run A
  run_from turn zero at = ended 0 at
  run_from turn (suc most) at = then_run (turn at) at (run_from turn most)

  -- a record without a fault of its own, or that fault at its place
  abbrev pub sound : (fault at : ℕ) → Turn A → Turn A
  sound zero at t = t
  sound (suc fault) at t = bad (suc fault) at
