-- Document 01, "Records": which amount a word of a book is. It comes from the reading: from the item and the member that the word stands in, and its
-- place there; the names stand in the paper's order. Assumes nothing.
use Rattle.std.specs.Prelude.{ℕ, Bool, length, get_or, replicate}
use mathlib.Core.List.{List, [], ◌∷◌, ◌++◌, flat_map}
use Rattle.rules.specs.Book.{Cover, Member, trade, written, basket, FinancingTrade, Item, asset, derivatives, financing, off_balance, Placed}
use Rattle.rules.specs.Read.{protections_of, items_of}

-- what no claim speaks of, with one name in all records
pub data Other : Type 0 where
  -- the first word of a record
  head : Other
  -- an asset's
  provision : Other
  deducted : Other
  -- a derivative set's
  margin_received : Other
  margin_paid : Other
  posted : Other
  -- a trade's, a written credit's or a basket's; a financing trade has days, too
  notional : Other
  days : Other
  reset_days : Other
  loss_taken : Other
  premiums : Other
  grade : Other
  -- a cover's
  covered : Other
  -- a financing trade's
  gross_asset : Other
  securities : Other
  receivable : Other
  payable : Other
  value_received : Other
  -- the head, the protections and the end, which are no items
  outside : Other

-- an amount, with the marks and classes that its ceiling or its exact effect is told by
pub data Role : Type 0 where
  -- an asset's carrying amount, by the mark of the asset
  carrying : (fiduciary : Bool) → Role
  -- an off-balance notional, by the two classes of the item
  off_balance_notional : (class committed : ℕ) → Role
  -- the value of a trade, a written credit or a basket, by the netting mark of its set
  value : (netting : Bool) → Role
  -- value lent in a financing trade, by the further exposure of its set, which only an agent's can have
  lent : (further : Bool) → Role
  other : Other → Role

-- kind 7
abbrev pub cover_roles : Cover → List Role
cover_roles c = other head ∷ other covered ∷ []

-- kinds 5, 6 with its covers, and 11
abbrev pub member_roles : (netting : Bool) → Member → List Role
member_roles netting (trade t) = other head ∷ value netting ∷ other notional ∷ other days ∷ other reset_days ∷ []
member_roles netting (written w) = other head ∷ value netting ∷ other notional ∷ other loss_taken ∷ other days ∷ other premiums ∷ flat_map cover_roles w.covers
member_roles netting (basket b) = other head ∷ value netting ∷ other notional ∷ replicate (length b.grades) (other grade)

-- kind 9
abbrev pub financing_trade_roles : (further : Bool) → FinancingTrade → List Role
financing_trade_roles further t =
    other head ∷ other gross_asset ∷ other securities ∷ other receivable ∷ other payable ∷ lent further ∷ other value_received ∷ other days ∷ []

-- kinds 2, 4 with its members, 8 with its trades, and 10
abbrev pub item_roles : Item → List Role
item_roles (asset a) = other head ∷ carrying a.fiduciary ∷ other provision ∷ other deducted ∷ []
item_roles (derivatives s) =
    other head ∷ other margin_received ∷ other margin_paid ∷ other posted ∷ flat_map (member_roles s.netting) s.members
item_roles (financing s) = other head ∷ flat_map (financing_trade_roles s.further) s.trades
item_roles (off_balance o) = other head ∷ off_balance_notional o.class o.committed ∷ []

-- wherever it stands
abbrev pub placed_roles : Placed → List Role
placed_roles p = item_roles p.item

-- one for each word: up to where the protections end, and of the items; behind them stands the end
abbrev pub roles_of : List ℕ → List Role
roles_of ws = replicate (protections_of ws).place (other outside) ++ flat_map placed_roles (items_of ws).records

-- of the word at a place
abbrev pub role_at : List ℕ → ℕ → Role
role_at ws k = get_or (roles_of ws) k (other outside)
