-- What two records are in which the one word stands that is another, by their own words in each book: the definitions. Assumes nothing.
use Prim.Native.Nat.{ℕ, suc, ◌+◌, ◌-◌, ◌<◌}
use mathlib.Core.List.{List}
use lib.ListN.{drop}
use Rattle.rules.specs.Word.{word, names_in}
use Rattle.rules.specs.Book.{Cover, Member, trade, written, basket, FinancingTrade, Item, asset, derivatives, financing, off_balance, Placed}
use Rattle.rules.specs.Read.{cover_at, trade_at, written_at, basket_at, asset_at, derivative_set_at, financing_trade_at, financing_set_at, off_balance_at}
use Rattle.cuts.proofs.Records.{CoverRead, MemberRead, FinancingTradeRead}
use Rattle.cuts.proofs.Steps.{OneOther}

module _ (xs ys : List ℕ) (k : ℕ) where
  pub data CoverOther (at : ℕ) : Cover → Cover → ℕ → Type 0 where
    covers : CoverOther at (cover_at xs at) (cover_at ys at) (at + 2)

  -- of a written credit the word is one of its own, and its covers are the same; or it is that of a cover
  pub data MemberOther (at : ℕ) : Member → Member → ℕ → Type 0 where
    trades : MemberOther at (trade (trade_at xs at)) (trade (trade_at ys at)) (at + 5)
    credits : (cs : List Cover) {stop : ℕ} → k < at + 6 → MemberOther at (written (written_at xs at cs)) (written (written_at ys at cs)) stop
    covers : {cs ds : List Cover} {stop : ℕ} → OneOther (CoverRead xs) (CoverRead ys) CoverOther k (at + 6) cs ds → MemberOther at (written (written_at xs at cs)) (written (written_at ys at ds)) stop
    baskets : MemberOther at (basket (basket_at xs at)) (basket (basket_at ys at)) (at + suc (names_in (word xs at) + 2))

  pub data FinancingTradeOther (at : ℕ) : FinancingTrade → FinancingTrade → ℕ → Type 0 where
    trades : FinancingTradeOther at (financing_trade_at xs at) (financing_trade_at ys at) (at + 8)

  -- of a derivative set the word is one of its own, and its members are the same; or it is that of a member
  pub data ItemOther : Item → Item → ℕ → Type 0 where
    assets : ItemOther (asset (asset_at xs)) (asset (asset_at ys)) 4
    sets : (l : List Member) {stop : ℕ} → k < 4 → ItemOther (derivatives (derivative_set_at xs l)) (derivatives (derivative_set_at ys l)) stop
    members : {l m : List Member} {stop : ℕ} → OneOther (MemberRead xs) (MemberRead ys) MemberOther k 4 l m → ItemOther (derivatives (derivative_set_at xs l)) (derivatives (derivative_set_at ys m)) stop
    financings : {l m : List FinancingTrade} {stop : ℕ} → OneOther (FinancingTradeRead xs) (FinancingTradeRead ys) FinancingTradeOther k 1 l m
        → ItemOther (financing (financing_set_at xs l)) (financing (financing_set_at ys m)) stop
    commitments : ItemOther (off_balance (off_balance_at xs)) (off_balance (off_balance_at ys)) 2

-- an item of a book, from its own place on
pub data PlacedOther (xs ys : List ℕ) (k at : ℕ) : Placed → Placed → ℕ → Type 0 where
  here : {i j : Item} {n : ℕ} → ItemOther (drop at xs) (drop at ys) (k - at) i j n
      → PlacedOther xs ys k at (record { begin = at; end = at + n; item = i }) (record { begin = at; end = at + n; item = j }) (at + n)
