-- What is read, with its places moved: the definitions. Assumes nothing.
use Prim.Native.Nat.{ℕ}
use mathlib.Core.List.{map}
use Rattle.rules.specs.Book.{Cover, Member, trade, written, basket, Placed}
use Rattle.cuts.specs.Further.{covered_by}

module _ (move : ℕ → ℕ) where
  -- only a cover knows its place
  abbrev pub moved_cover : Cover → Cover
  moved_cover c = record { at = move c.at; protection = c.protection; amount = c.amount }

  -- so of a member only its covers move
  abbrev pub moved_member : Member → Member
  moved_member (trade t) = trade t
  moved_member (written w) = written (covered_by (map moved_cover w.covers) w)
  moved_member (basket b) = basket b

-- an item at another place
abbrev pub moved_placed : (ℕ → ℕ) → Placed → Placed
moved_placed move p = record { begin = move p.begin; end = move p.end; item = p.item }
