-- How many words a record takes up, by what is read of it: the definitions. Assumes nothing.
use Prim.Native.Nat.{ℕ, ◌+◌}
use lib.ListN.{length}
use Rattle.rules.specs.Book.{Protection, Cover, Member, trade, written, basket, FinancingTrade, Item, asset, derivatives, financing, off_balance, Placed, total}

-- its word and its amount
abbrev pub cover_length : Cover → ℕ
cover_length c = 2

-- a basket has a grade for each name behind its two amounts
abbrev pub member_length : Member → ℕ
member_length (trade t) = 5
member_length (written w) = 6 + total cover_length w.covers
member_length (basket b) = 3 + length b.grades

-- its word and seven amounts
abbrev pub financing_trade_length : FinancingTrade → ℕ
financing_trade_length t = 8

-- its word and three amounts
abbrev pub protection_length : Protection → ℕ
protection_length p = 4

-- a set has its members behind its own words
abbrev pub item_length : Item → ℕ
item_length (asset a) = 4
item_length (derivatives s) = 4 + total member_length s.members
item_length (financing s) = 1 + total financing_trade_length s.trades
item_length (off_balance o) = 2

abbrev pub placed_length : Placed → ℕ
placed_length p = item_length p.item
