-- Document 01, "Records": a book as plain data, once it is read out of the words. Assumes nothing.
use Rattle.std.specs.Prelude.{ℕ, ◌+◌, Bool, List, [], ◌∷◌}
use Rattle.rules.specs.declared.Bands.{Bands}

-- kind 1, the head: b, how many bought protections there are; Tier 1 as a gain less a loss, one of which is 0; and the bands of its factors at
-- the reporting date
pub record Head : Type 0 where
  pub protections : ℕ
  pub gain : ℕ
  pub loss : ℕ
  pub bands : Bands

-- kind 3, a bought protection. A larger rank is more junior.
pub record Protection : Type 0 where
  pub entity : ℕ
  pub rank : ℕ
  pub notional : ℕ
  pub gain : ℕ
  pub days : ℕ

-- kind 2
pub record Asset : Type 0 where
  pub fiduciary : Bool
  pub carrying : ℕ
  pub provision : ℕ
  pub deducted : ℕ

-- kind 5. The value is a gain less a loss, one of which is 0.
pub record Trade : Type 0 where
  pub class : ℕ
  pub payments : ℕ
  pub resets : Bool
  pub qualifying : Bool
  pub gain : ℕ
  pub loss : ℕ
  pub notional : ℕ
  pub days : ℕ
  pub reset_days : ℕ

-- kind 11, a basket that pays at the n-th default among its names (request A.3): their grades, of which a larger one is worse. The value is a
-- gain less a loss.
pub record Basket : Type 0 where
  pub nth : ℕ
  pub gain : ℕ
  pub loss : ℕ
  pub notional : ℕ
  pub grades : List ℕ

-- kind 7: the protection that it names, and how much of it. `at` is where the record stands in the words of its set.
pub record Cover : Type 0 where
  pub at : ℕ
  pub protection : ℕ
  pub amount : ℕ

-- kind 6, with the covers behind it. The value is a gain less a loss; the loss taken into Tier 1 is another amount.
pub record WrittenCredit : Type 0 where
  pub entity : ℕ
  pub rank : ℕ
  pub qualifying : Bool
  pub total_return : Bool
  pub close_out : Bool
  pub gain : ℕ
  pub loss : ℕ
  pub notional : ℕ
  pub loss_taken : ℕ
  pub days : ℕ
  pub premiums : ℕ
  pub covers : List Cover

pub data Member : Type 0 where
  trade : Trade → Member
  written : WrittenCredit → Member
  basket : Basket → Member

-- kind 4 with its members. The marks are bits 0 to 5 (paragraphs 21, 25 and 27).
pub record DerivativeSet : Type 0 where
  pub netting : Bool
  pub not_segregated : Bool
  pub daily : Bool
  pub same_currency : Bool
  pub full_amount : Bool
  pub exempt : Bool
  pub received : ℕ
  pub paid : ℕ
  pub posted : ℕ
  pub members : List Member

-- kind 9
pub record FinancingTrade : Type 0 where
  pub net_settled : Bool
  pub asset : ℕ
  pub securities : ℕ
  pub receivable : ℕ
  pub payable : ℕ
  pub lent : ℕ
  pub received : ℕ
  pub days : ℕ

-- kind 8 with its trades
pub record FinancingSet : Type 0 where
  pub netting : Bool
  pub agent : Bool
  pub further : Bool
  pub trades : List FinancingTrade

-- kind 10. `committed` is 0, or one more than the class of the item committed to.
pub record OffBalance : Type 0 where
  pub class : ℕ
  pub committed : ℕ
  pub notional : ℕ

pub data Item : Type 0 where
  asset : Asset → Item
  derivatives : DerivativeSet → Item
  financing : FinancingSet → Item
  off_balance : OffBalance → Item

-- an item, with the place of its first word and the place after its last
pub record Placed : Type 0 where
  pub begin : ℕ
  pub end : ℕ
  pub item : Item

-- the sum of f over a list
abbrev pub total : {A : Type 0} → (A → ℕ) → List A → ℕ
total f [] = 0
total f (x ∷ xs) = f x + total f xs
