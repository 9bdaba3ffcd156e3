-- What is read of a book and of the same one with further covers put in: how the two are related. Sets and items are related by what relates
-- their written credits, which is given. Assumes nothing.
use Rattle.std.specs.Prelude.{ℕ, ◌≡◌, List, [], ◌∷◌}
use Rattle.rules.specs.Book.{Trade, Basket, Cover, WrittenCredit, Member, trade, written, basket, DerivativeSet, Item, derivatives, Placed}
use Rattle.rules.specs.Read.{head_of, protections_of, items_of}
use Rattle.rules.proofs.Lists.{Pairs}

-- ---- what has members, by its written credits

-- a written credit with these covers
abbrev pub covered_by : List Cover → WrittenCredit → WrittenCredit
covered_by covers w = record {
  entity = w.entity;
  rank = w.rank;
  qualifying = w.qualifying;
  total_return = w.total_return;
  close_out = w.close_out;
  gain = w.gain;
  loss = w.loss;
  notional = w.notional;
  loss_taken = w.loss_taken;
  days = w.days;
  premiums = w.premiums;
  covers = covers;
}

-- a derivative set without its members
abbrev pub memberless : DerivativeSet → DerivativeSet
memberless s = record {
  netting = s.netting;
  not_segregated = s.not_segregated;
  daily = s.daily;
  same_currency = s.same_currency;
  full_amount = s.full_amount;
  exempt = s.exempt;
  received = s.received;
  paid = s.paid;
  posted = s.posted;
  members = [];
}

module _ (Credits : WrittenCredit → WrittenCredit → Type 0) where
  -- the same trade, the same basket, or two credits that are related
  pub data MemberByCredits : Member → Member → Type 0 where
    of_trade : {t : Trade} → MemberByCredits (trade t) (trade t)
    of_credit : {w v : WrittenCredit} → Credits w v → MemberByCredits (written w) (written v)
    of_basket : {b : Basket} → MemberByCredits (basket b) (basket b)

  -- equal but for credits of members
  pub record SetByCredits (s t : DerivativeSet) : Type 0 where
    pub alike : memberless s ≡ memberless t
    pub members : Pairs MemberByCredits s.members t.members

  -- the same item, as any asset, financing set or off-balance item is; or two such sets
  pub data ItemByCredits : Item → Item → Type 0 where
    same : {i : Item} → ItemByCredits i i
    for_derivatives : {s t : DerivativeSet} → SetByCredits s t → ItemByCredits (derivatives s) (derivatives t)

  -- wherever the two stand
  abbrev pub PlacedByCredits : Placed → Placed → Type 0
  PlacedByCredits p q = ItemByCredits p.item q.item

-- ---- further covers

-- the covers of the first are among those of the second, in their order: one of both, whose places may differ, or one of the second alone
pub data MoreCovers : List Cover → List Cover → Type 0 where
  none : MoreCovers [] []
  both : {c d : Cover} {cs ds : List Cover} → c.protection ≡ d.protection → c.amount ≡ d.amount → MoreCovers cs ds → MoreCovers (c ∷ cs) (d ∷ ds)
  further : {d : Cover} {cs ds : List Cover} → MoreCovers cs ds → MoreCovers cs (d ∷ ds)

-- equal but for further covers
pub record FurtherCredit (w v : WrittenCredit) : Type 0 where
  pub alike : covered_by [] w ≡ covered_by [] v
  pub covers : MoreCovers w.covers v.covers

-- the same head, the same protections, and items side by side
pub record FurtherBook (xs ys : List ℕ) : Type 0 where
  pub head : head_of xs ≡ head_of ys
  pub protections : (protections_of xs).records ≡ (protections_of ys).records
  pub items : Pairs (PlacedByCredits FurtherCredit) (items_of xs).records (items_of ys).records
