-- Document 01, "Weighing a set", "Cover": the covers drawn from the register, one after the other as they stand in the book, and the
-- causes 11 to 13. Assumes nothing.
use Rattle.std.specs.Prelude.{ℕ, zero, suc, ◌+◌, ◌-◌, not, ◌||◌, List, [], ◌∷◌, ◌++◌, eqb, leb, ltb, length, get_or, set}
use Rattle.rules.specs.declared.Draw.{Draw}
use Rattle.rules.specs.declared.Entry.{Entry}
use Rattle.rules.specs.Book.{Protection, Cover, WrittenCredit, Member, trade, written, basket, Item, asset, derivatives, financing, off_balance, Placed}
use Rattle.rules.specs.Faults.{cause}

-- the entry "all zero"
abbrev pub blank : Entry
blank = record { entity = 0; rank = 0; days = 0; left = 0 }

-- "Available: notional minus gain"
abbrev pub available : Protection → ℕ
available p = p.notional - p.gain

-- a protection of which nothing is drawn yet
abbrev pub entry_of : Protection → Entry
entry_of p = record { entity = p.entity; rank = p.rank; days = p.days; left = available p }

-- the covers of a written credit as draws: each with what the covers before leave of its notional minus loss
unfoldable pub draws_from : (begin room : ℕ) → WrittenCredit → List Cover → List Draw
draws_from begin room w [] = []
draws_from begin room w (c ∷ cs) =
    record { at = begin + c.at; entity = w.entity; rank = w.rank; days = w.days; room = room; protection = c.protection; amount = c.amount }
    ∷ draws_from begin (room - c.amount) w cs

-- the draws of a set that begins at a place of the book
unfoldable pub draws_of : ℕ → List Member → List Draw
draws_of begin [] = []
draws_of begin (trade t ∷ ms) = draws_of begin ms
draws_of begin (written w ∷ ms) = draws_from begin (w.notional - w.loss_taken) w w.covers ++ draws_of begin ms
draws_of begin (basket b ∷ ms) = draws_of begin ms

abbrev pub draws_in : ℕ → Item → List Draw
draws_in begin (asset a) = []
draws_in begin (derivatives s) = draws_of begin s.members
draws_in begin (financing s) = []
draws_in begin (off_balance o) = []

-- those of a book
unfoldable pub draws_over : List Placed → List Draw
draws_over [] = []
draws_over (p ∷ ps) = draws_in p.begin p.item ++ draws_over ps

-- "same entity, rank at least the written one's, days at least its days, amount within what is left of the protection and of
-- notional minus loss"
unfoldable pub unfit_for : Entry → Draw → ℕ
unfit_for e d =
    cause 12 (not (eqb e.entity d.entity) || ltb e.rank d.rank || ltb e.days d.days)
    (cause 13 (ltb e.left d.amount || ltb d.room d.amount)
    0)

-- "cover's place not below b": b entries hold the protections
unfoldable pub draw_fault : List Entry → Draw → ℕ
draw_fault entries d = cause 11 (leb (length entries) d.protection) (unfit_for (get_or entries d.protection blank) d)

-- the entries after a draw
abbrev pub drawn_from : Entry → ℕ → Entry
drawn_from e amount = record { entity = e.entity; rank = e.rank; days = e.days; left = e.left - amount }

abbrev pub drawn : List Entry → Draw → List Entry
drawn entries d = set entries d.protection (drawn_from (get_or entries d.protection blank) d.amount)

-- all draws fit, and what they leave; or the number and place of the first that does not
pub data Settled : Type 0 where
  unfit : (number place : ℕ) → Settled
  settled : List Entry → Settled

abbrev pub if_fit : (fault at : ℕ) → Settled → Settled
if_fit zero at rest = rest
if_fit (suc fault) at rest = unfit (suc fault) at

unfoldable pub settle : List Entry → List Draw → Settled
settle entries [] = settled entries
settle entries (d ∷ ds) = if_fit (draw_fault entries d) d.at (settle (drawn entries d) ds)
