-- Request A.1, "Show me the set": which stretch of the lent book is handed back, and with which number and place. Assumes nothing.
use Rattle.std.specs.Prelude.{ℕ, ◌+◌, ◌*◌, ◌-◌, ◌≡◌, Bool, true, false, cond, List, [], ◌∷◌, take, drop}
use Rattle.std.proofs.Math.Option.{Option, none, some}
use Rattle.std.proofs.Math.ListN.{get_elem?}
use Rattle.std.specs.Borrow.{Bor}
use Rattle.rules.specs.Book.{Item, asset, derivatives, financing, off_balance, Placed}
use Rattle.rules.specs.Filing.{Outcome, early, refused, accepted, admission}

-- the number and the place that are answered, and the stretch: the place in the book of its first word, and the place after its last
pub record Shown : Type 0 where
  pub number : ℕ
  pub place : ℕ
  pub begin : ℕ
  pub end : ℕ

-- "counting kinds 4 and 8 together"
abbrev pub is_set : Item → Bool
is_set (asset a) = false
is_set (derivatives s) = true
is_set (financing s) = true
is_set (off_balance o) = false

-- the sets among the items that were read, in their order
unfoldable pub sets_of : List Placed → List Placed
sets_of [] = []
sets_of (p ∷ items) = cond (is_set p.item) (p ∷ sets_of items) (sets_of items)

-- "Every refusal hands back an empty stretch": none of the book's words, at its first one
abbrev pub turned_away : (number place : ℕ) → Shown
turned_away number place = record { number = number; place = place; begin = 0; end = 0 }

-- "from the set's head to its last member"; "An ordinal with no set is refused 15 ... with place 0"
abbrev pub shown_set : Option Placed → Shown
shown_set (some p) = record { number = 0; place = 0; begin = p.begin; end = p.end }
shown_set none = turned_away 15 0

-- "A refused book gives its own number and place"; 15 comes "after all of the book's refusals"; the ordinal is "from 0"
abbrev pub shown_in : Outcome → ℕ → Shown
shown_in (early number) ordinal = turned_away number 0
shown_in (refused number place) ordinal = turned_away number place
shown_in (accepted items left) ordinal = shown_set (get_elem? (sets_of items) ordinal)

-- a book, an ordinal and a register of so many entries; no rows are lent
unfoldable pub showing : List ℕ → (ordinal entries : ℕ) → Shown
showing ws ordinal entries = shown_in (admission ws entries) ordinal

-- the words of the book from the first place on, up to the second and without it
abbrev pub stretch_of : List ℕ → Shown → List ℕ
stretch_of ws s = take (s.end - s.begin) (drop s.begin ws)

-- "that very stretch of the lent book": these words, in the block of memory where the book stands, four bytes for each word that stands before
-- them. So one of two sets with equal words is told from the other.
abbrev pub VeryStretch : Bor (List ℕ) → Shown → Bor (List ℕ) → Type 0
VeryStretch book s r =
    (r.now ≡ stretch_of book.now s)
    × ((r.ref_ptr.0 ≡ book.ref_ptr.0) × (r.ref_ptr.1 ≡ book.ref_ptr.1 + s.begin * 4))
