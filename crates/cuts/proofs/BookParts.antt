-- The parts that a book is written of: the definitions. Assumes nothing.
use Prim.Native.Nat.{ℕ, ◌+◌}
use mathlib.Core.Path.{◌≡◌}
use mathlib.Core.List.{List, [], ◌∷◌, ◌++◌, Forall₂}
use lib.ListN.{length}
use Rattle.rules.specs.Word.{kind_of, payload_of}
use Rattle.rules.specs.Book.{Protection, Item}
use Rattle.rules.specs.Read.{first_record, head_of}
use Rattle.cuts.proofs.Chains.{Chain}
use Rattle.cuts.proofs.Records.{ProtectionRead}
use Rattle.cuts.proofs.Cutting.{items_begin}
use Rattle.cuts.proofs.OneItem.{OneItem}

-- words one after the other
abbrev pub joined : List (List ℕ) → List ℕ
joined [] = []
joined (w ∷ l) = w ++ joined l

-- head and protections, items, end
abbrev pub book_of : (front : List ℕ) → List (List ℕ) → (end : ℕ) → List ℕ
book_of front items end = front ++ (joined items ++ (end ∷ []))

-- words that are a head and its protections, which are as many as it says
pub record Front (front : List ℕ) (ps : List Protection) : Type 0 where
  pub long : length front ≡ items_begin front
  pub many : length ps ≡ (head_of front).protections
  pub protections : Chain (ProtectionRead front) first_record ps (length front)

-- each list of words reads as the item beside it
abbrev pub Reading : List (List ℕ) → List Item → Type 0
Reading = Forall₂ OneItem

-- an end word that counts the words before it
pub record EndWord (end count : ℕ) : Type 0 where
  pub of : kind_of end ≡ 15
  pub counts : payload_of end ≡ count

-- parts that a book is written of
pub record BookParts (front : List ℕ) (ps : List Protection) (items : List (List ℕ)) (is : List Item) (end : ℕ) : Type 0 where
  pub front_good : Front front ps
  pub reading : Reading items is
  pub end_good : EndWord end (length front + length (joined items))
