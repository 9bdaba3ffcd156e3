-- What other marks of one derivative set change of an accepted book: that set alone. Assumes nothing.
use Rattle.std.specs.Prelude.{ℕ, ◌+◌, ◌<◌, ◌≡◌, List, ◌∷◌, ◌++◌, pos}
use Rattle.rules.specs.declared.Entry.{Entry}
use Rattle.rules.specs.Book.{DerivativeSet, derivatives, Placed}
use Rattle.rules.specs.Read.{head_of}
use Rattle.rules.specs.Rows.{sum_over, sums_of, exposure_row}
use Rattle.rules.specs.Filing.{outcome_of, accepted}
use Rattle.laws.specs.Exposure.{exposure_of}
use Rattle.other_marks.specs.Marked.{settings, book_with, set_with, placed_with}

-- an accepted book, and a derivative set among its items
pub record SetAmong (ws : List ℕ) (rows entries : ℕ) (left : List Entry) (front : List Placed) (p : Placed) (s : DerivativeSet) (back : List Placed) : Type 0 where
  pub accepts : outcome_of ws rows entries ≡ accepted (front ++ p ∷ back) left
  pub set : p.item ≡ derivatives s

module _ (ws : List ℕ) (rows entries : ℕ) (left : List Entry) (front : List Placed) (p : Placed) (s : DerivativeSet) (back : List Placed) (m : ℕ) where
  pub record LikeFiled : Type 0 where
    -- the same head, and so the same Tier 1 and the same bands
    pub head : head_of (book_with ws p.begin m) ≡ head_of ws
    -- accepted with the same items but for the marks, and the same entries left
    pub accepts : outcome_of (book_with ws p.begin m) rows entries ≡ accepted (front ++ placed_with (derivatives (set_with m s)) p ∷ back) left
    -- row 21 is what the other items add, and what the set adds under these marks
    pub exposure : exposure_row (sums_of (head_of ws).bands (front ++ placed_with (derivatives (set_with m s)) p ∷ back))
        ≡ pos (sum_over (exposure_of (head_of ws).bands) front + sum_over (exposure_of (head_of ws).bands) back + exposure_of (head_of ws).bands (derivatives (set_with m s)))

-- EVERY SETTING is a book that is accepted, with the same register
abbrev pub AcceptedAlike : Type 0
AcceptedAlike =
    (ws : List ℕ) (rows entries : ℕ) (left : List Entry) (front : List Placed) (p : Placed) (s : DerivativeSet) (back : List Placed)
    → SetAmong ws rows entries left front p s back → (m : ℕ) → m < settings → LikeFiled ws rows entries left front p s back m

-- the filed setting is one of them
abbrev pub FiledIsOne : Type 0
FiledIsOne =
    (ws : List ℕ) (rows entries : ℕ) (left : List Entry) (front : List Placed) (p : Placed) (s : DerivativeSet) (back : List Placed)
    → SetAmong ws rows entries left front p s back → (m : ℕ) × ((m < settings) × (book_with ws p.begin m ≡ ws) × (set_with m s ≡ s))
