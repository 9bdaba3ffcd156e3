-- What the code is given when it comes to a set: the admission of a book with some register, and a derivative set among its items. Assumes nothing.
use Rattle.std.specs.Prelude.{ℕ, ◌≡◌, List, ◌∷◌, ◌++◌, length}
use Rattle.rules.specs.declared.Entry.{Entry}
use Rattle.rules.specs.declared.Sums.{Sums}
use Rattle.rules.specs.Book.{DerivativeSet, Placed}
use Rattle.rules.specs.Read.{head_of}
use Rattle.rules.specs.Rows.{sums_of}
use Rattle.rules.specs.Filing.{admission}
use Rattle.reading.specs.Admission.{Admission}
use Rattle.reading.specs.Admission.{Admitted}
use Rattle.filing.specs.Answers.{admission_of}
use Rattle.other_marks.specs.Claims.{SetAmong}

-- what `admit` gives of a book with this register
abbrev pub IsAdmission : List ℕ → List Entry → Admission → Type 0
IsAdmission ws register a = a ≡ admission_of (head_of ws).bands (admission ws (length register))

-- it is admitted with these sums
abbrev pub AdmittedAs : List ℕ → List Entry → Sums → Type 0
AdmittedAs ws register sums = IsAdmission ws register (Admitted sums)

-- with some register
pub record AdmittedBy (ws : List ℕ) (sums : Sums) : Type 0 where
  pub register : List Entry
  pub is : AdmittedAs ws register sums

-- in a book that is accepted with this register and comes to these sums, a derivative set begins at a place
pub record ChosenSet (ws : List ℕ) (register : List Entry) (sums : Sums) (head : ℕ) : Type 0 where
  pub left : List Entry
  pub front : List Placed
  pub placed : Placed
  pub set : DerivativeSet
  pub back : List Placed
  pub among : SetAmong ws 22 (length register) left front placed set back
  pub begins : placed.begin ≡ head
  pub sums_are : sums ≡ sums_of (head_of ws).bands (front ++ placed ∷ back)

pub record SomeChosen (ws : List ℕ) (sums : Sums) (head : ℕ) : Type 0 where
  pub register : List Entry
  pub chosen : ChosenSet ws register sums head
