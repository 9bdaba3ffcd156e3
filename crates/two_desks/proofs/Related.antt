-- Items that differ in marks at most, set in the second and not in the first. Assumes nothing.
use mathlib.Core.Path.{◌≡◌}
use mathlib.Core.Bool.{Bool, true}
use Rattle.rules.specs.Book.{Asset, DerivativeSet, FinancingTrade, FinancingSet, OffBalance, Item, asset, derivatives, financing, off_balance, Placed}
use Rattle.rules.proofs.Lists.{Pairs}

-- a mark that is set stays set
abbrev pub Kept : Bool → Bool → Type 0
Kept a b = a ≡ true → b ≡ true

pub record MoreAsset (a b : Asset) : Type 0 where
  pub fiduciary : Kept a.fiduciary b.fiduciary
  pub carrying : a.carrying ≡ b.carrying
  pub provision : a.provision ≡ b.provision
  pub deducted : a.deducted ≡ b.deducted

pub record MoreSet (s t : DerivativeSet) : Type 0 where
  pub netting : Kept s.netting t.netting
  pub not_segregated : Kept s.not_segregated t.not_segregated
  pub daily : Kept s.daily t.daily
  pub same_currency : Kept s.same_currency t.same_currency
  pub full_amount : Kept s.full_amount t.full_amount
  pub exempt : Kept s.exempt t.exempt
  pub received : s.received ≡ t.received
  pub paid : s.paid ≡ t.paid
  pub posted : s.posted ≡ t.posted
  pub members : s.members ≡ t.members

pub record MoreTrade (s t : FinancingTrade) : Type 0 where
  pub net_settled : Kept s.net_settled t.net_settled
  pub asset : s.asset ≡ t.asset
  pub securities : s.securities ≡ t.securities
  pub receivable : s.receivable ≡ t.receivable
  pub payable : s.payable ≡ t.payable
  pub lent : s.lent ≡ t.lent
  pub received : s.received ≡ t.received
  pub days : s.days ≡ t.days

pub record MoreFinancing (s t : FinancingSet) : Type 0 where
  pub netting : Kept s.netting t.netting
  pub agent : s.agent ≡ t.agent
  pub further : s.further ≡ t.further
  pub trades : Pairs MoreTrade s.trades t.trades

pub data MoreItem : Item → Item → Type 0 where
  of_assets : {a b : Asset} → MoreAsset a b → MoreItem (asset a) (asset b)
  for_derivatives : {s t : DerivativeSet} → MoreSet s t → MoreItem (derivatives s) (derivatives t)
  for_financing : {s t : FinancingSet} → MoreFinancing s t → MoreItem (financing s) (financing t)
  for_off_balance : {o : OffBalance} → MoreItem (off_balance o) (off_balance o)

pub record MorePlaced (p q : Placed) : Type 0 where
  pub begin : p.begin ≡ q.begin
  pub end : p.end ≡ q.end
  pub item : MoreItem p.item q.item
