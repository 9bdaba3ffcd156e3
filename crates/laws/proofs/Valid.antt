-- What the causes of number 9 leave in an item that is read: an asset's provision and deduction are within its carrying amount, and a
-- financing trade's securities and receivable within its gross asset. Assumes nothing.
use Prim.Native.Nat.{ℕ, zero, suc, ◌+◌, ◌≤◌}
use mathlib.Core.Path.{◌≡◌, refl}
use mathlib.Core.Bool.{Bool, true, false, cond}
use mathlib.Core.List.{List}
use native.Mathlib.Omega.{arith}
use borrow.Author.Tests.{ltb-false}
use lib.Dec.{eqb, leb, ltb}
use lib.ListN.{length, drop}
use Rattle.rules.specs.Word.{word, kind_of, size_of, amounts_in}
use Rattle.rules.specs.Book.{FinancingTrade, Item, asset, derivatives, financing, off_balance, Placed}
use Rattle.rules.specs.Run.{Turn, over, bad, some, ended, run_from, sound}
use Rattle.rules.specs.Faults.{cause, asset_fault, financing_trade_fault}
use Rattle.rules.specs.Read.{lacks, record_then, stands, asset_at, asset_turn, derivative_set_turn, financing_trade_at, financing_trade_turn, financing_member_turn, financing_set_at, financing_set_turn, off_balance_turn, item_of, placed, end_fault, item_turn, protections_of, items_of}
use Rattle.rules.proofs.Lists.{Every, or_left}
use Rattle.rules.proofs.Runs.{TurnHas, every_run}

abbrev pub ValidTrade : FinancingTrade → Type 0
ValidTrade t = t.securities + t.receivable ≤ t.asset

abbrev pub ValidItem : Item → Type 0
ValidItem (asset a) = a.provision + a.deducted ≤ a.carrying
ValidItem (derivatives s) = Unit {0}
ValidItem (financing s) = Every ValidTrade s.trades
ValidItem (off_balance o) = Unit {0}

abbrev pub ValidPlaced : Placed → Type 0
ValidPlaced p = ValidItem p.item

-- a chain of causes that comes to 0: the first does not hold, and the rest comes to 0
pub cause_none : (number : ℕ) (test : Bool) (next : ℕ) → cause (suc number) test next ≡ 0 → (test ≡ false) × (next ≡ 0)
unfolding cause
cause_none number true next e = let z : ⊥ = omega arith in absurd z
cause_none number false next e = (refl, e)

module _ {A : Type 0} (P : A → Type 0) where
  has_if : (b : Bool) (t u : Turn A) → TurnHas P t → TurnHas P u → TurnHas P (cond b t u)
  has_if true t u g h = g
  has_if false t u g h = h

  has_sound : (fault at : ℕ) (t : Turn A) → (fault ≡ 0 → TurnHas P t) → TurnHas P (sound fault at t)
  has_sound zero at t h = h refl
  has_sound (suc fault) at t h = tt

  pub has_record : (ws : List ℕ) (at fault : ℕ) (next : ℕ → Turn A) → (fault ≡ 0 → (n : ℕ) → TurnHas P (next n)) → TurnHas P (record_then ws at fault next)
  unfolding record_then
  has_record ws at fault next h =
      has_if (lacks (amounts_in (word ws at)) ws at) (bad 6 at) (sound fault at (next (at + suc (amounts_in (word ws at))))) tt
      (has_sound fault at (next (at + suc (amounts_in (word ws at)))) (λ e. h e (at + suc (amounts_in (word ws at)))))

valid_asset : (ws : List ℕ) → TurnHas ValidItem (asset_turn ws)
unfolding asset_turn asset_at asset_fault
valid_asset ws =
    has_record ValidItem ws 0 _ _
    (λ e n.
    let a = (cause_none 6 _ _ e).1 in
    let b = (cause_none 7 _ _ a).1 in
    ltb-false _ _ (cause_none 8 _ _ b).0)

valid_trade : (ws : List ℕ) (at : ℕ) → TurnHas ValidTrade (financing_trade_turn ws at)
unfolding financing_trade_turn financing_trade_at financing_trade_fault
valid_trade ws at =
    has_record ValidTrade ws at _ _
    (λ e n.
    let a = (cause_none 6 _ _ e).1 in
    let b = (cause_none 7 _ _ a).1 in
    ltb-false _ _ (or_left (ltb (size_of (word ws (at + 1))) (size_of (word ws (at + 2)) + size_of (word ws (at + 3)))) _ (cause_none 8 _ _ b).0))

valid_member : (ws : List ℕ) (at : ℕ) → TurnHas ValidTrade (financing_member_turn ws at)
unfolding financing_member_turn
valid_member ws at = has_if ValidTrade (stands 9 ws at) (financing_trade_turn ws at) over (valid_trade ws at) tt

valid_financing : (ws : List ℕ) → TurnHas ValidItem (financing_set_turn ws)
unfolding financing_set_turn financing_set_at
valid_financing ws = has_record ValidItem ws 0 _ _ (λ e n. every_run ValidTrade (financing_member_turn ws) (valid_member ws) (suc (length ws)) n)

valid_derivatives : (ws : List ℕ) → TurnHas ValidItem (derivative_set_turn ws)
unfolding derivative_set_turn
valid_derivatives ws = has_record ValidItem ws 0 _ _ (λ e n. tt)

valid_off_balance : (ws : List ℕ) → TurnHas ValidItem (off_balance_turn ws)
unfolding off_balance_turn
valid_off_balance ws = has_record ValidItem ws 0 _ _ (λ e n. tt)

valid_item : (ws : List ℕ) → TurnHas ValidItem (item_of ws)
unfolding item_of
valid_item ws =
    has_if ValidItem (eqb (kind_of (word ws 0)) 2) _ _ (valid_asset ws)
    (has_if ValidItem (eqb (kind_of (word ws 0)) 4) _ _ (valid_derivatives ws)
    (has_if ValidItem (eqb (kind_of (word ws 0)) 8) _ _ (valid_financing ws)
    (has_if ValidItem (eqb (kind_of (word ws 0)) 10) _ (bad 5 0) (valid_off_balance ws) tt)))

valid_placed : (at : ℕ) (t : Turn Item) → TurnHas ValidItem t → TurnHas ValidPlaced (placed at t)
valid_placed at over h = tt
valid_placed at (bad number place) h = tt
valid_placed at (some i number place) h = h

valid_turn : (ws : List ℕ) (at : ℕ) → TurnHas ValidPlaced (item_turn ws at)
unfolding item_turn
valid_turn ws at =
    has_if ValidPlaced (leb (length ws) at) (bad 14 (length ws)) _ tt
    (has_if ValidPlaced (eqb (kind_of (word ws at)) 15) _ _ (has_sound ValidPlaced (end_fault ws at) at over (λ e. tt))
    (valid_placed at (item_of (drop at ws)) (valid_item (drop at ws))))

-- every item that is read is valid, also in a book that is refused
pub valid_items : (ws : List ℕ) → Every ValidPlaced (items_of ws).records
unfolding items_of
valid_items ws = go (eqb (protections_of ws).number 0)
  where
    go : (b : Bool) → Every ValidPlaced (cond b (run_from (item_turn ws) (suc (length ws)) (protections_of ws).place) (ended (protections_of ws).number (protections_of ws).place)).records
    go true = every_run ValidPlaced (item_turn ws) (valid_turn ws) (suc (length ws)) (protections_of ws).place
    go false = Every.none
