-- How large the sums over the items of a book are, by the words of the book: 2 ^ 41 for each word. Assumes nothing.
use Prim.Native.Nat.{ℕ, suc, ◌+◌, ◌*◌, ◌≤◌, ◌<◌}
use mathlib.Core.Path.{◌≡◌}
use mathlib.Core.Bool.{Bool, true, false, not, cond}
use mathlib.Core.List.{List}
use native.Mathlib.Omega.{arith}
use borrow.Author.Tests.{eqb-true, leb-false, not-false}
use lib.Dec.{eqb, leb}
use lib.ListN.{length, drop, length-drop}
use Rattle.rules.specs.declared.Bands.{Bands}
use Rattle.rules.specs.Word.{word, kind_of}
use Rattle.rules.specs.Book.{Protection, Member, FinancingTrade, Item, asset, derivatives, financing, off_balance, Placed, total}
use Rattle.rules.specs.Run.{Turn, over, bad, some, Run, ended, run_from, sound}
use Rattle.rules.specs.Faults.{protection_fault, asset_fault, derivative_set_fault, financing_set_fault, off_balance_fault}
use Rattle.rules.specs.Read.{head_of, first_record, protection_at, protection_turn, protections_of, asset_at, asset_turn, member_turn, derivative_set_at, with_members, derivative_set_turn, financing_member_turn, financing_set_at, with_trades, financing_set_turn, off_balance_at, off_balance_turn, item_of, placed, end_fault, item_turn, items_of}
use Rattle.rules.specs.Rows.{sum_over}
use Rattle.rules.proofs.Runs.{FineTurn, FineRun, fine_run}
use Rattle.laws.proofs.Records.{fine_if, fine_sound, fine_record}
use Rattle.laws.proofs.MemberBounds.{per_word, member_weight, financing_weight, fine_member, fine_financing_member}

-- ---- items

abbrev pub item_weight : Bands → Item → ℕ
item_weight bands (asset a) = 1000 * a.carrying + 2000 * a.deducted
item_weight bands (derivatives s) = 2000 * s.paid + 1000 * s.posted + total (member_weight bands) s.members
item_weight bands (financing s) = total financing_weight s.trades
item_weight bands (off_balance o) = 2000 * o.notional

-- an item read out of words of its own
module _ (bands : Bands) (ws : List ℕ) (h : 0 < length ws) where
  abbrev Fine : Turn Item → Type 0
  Fine = FineTurn (length ws) per_word (item_weight bands) 0

  fine_asset : kind_of (word ws 0) ≡ 2 → Fine (asset_turn ws)
  unfolding asset_turn asset_at
  fine_asset e =
      fine_record per_word (item_weight bands) ws 0 3 (asset_fault (word ws 0) (word ws 1) (word ws 2) (word ws 3)) (some (asset (asset_at ws)) 0) h (rw e)
      (λ r z. (omega arith, omega arith, omega arith))

  fine_members : (members : Run Member) → FineRun (length ws) per_word (member_weight bands) 4 members → Fine (with_members ws members)
  unfolding derivative_set_at
  fine_members members r = (omega arith, r.within, omega (arith, r.small))

  fine_derivatives : kind_of (word ws 0) ≡ 4 → Fine (derivative_set_turn ws)
  unfolding derivative_set_turn
  fine_derivatives e =
      fine_record per_word (item_weight bands) ws 0 3 (derivative_set_fault (word ws 0) (word ws 1) (word ws 2) (word ws 3))
      (λ (next : ℕ). with_members ws (run_from (member_turn ws) (suc (length ws)) next)) h (rw e)
      (λ r z. fine_members _ (fine_run (length ws) per_word (member_weight bands) (member_turn ws) (fine_member bands ws) (suc (length ws)) 4 (omega arith)))

  fine_trades : (trades : Run FinancingTrade) → FineRun (length ws) per_word financing_weight 1 trades → Fine (with_trades ws trades)
  unfolding financing_set_at
  fine_trades trades r = (omega arith, r.within, omega (arith, r.small))

  fine_set : kind_of (word ws 0) ≡ 8 → Fine (financing_set_turn ws)
  unfolding financing_set_turn
  fine_set e =
      fine_record per_word (item_weight bands) ws 0 0 (financing_set_fault (word ws 0))
      (λ (next : ℕ). with_trades ws (run_from (financing_member_turn ws) (suc (length ws)) next)) h (rw e)
      (λ r z. fine_trades _ (fine_run (length ws) per_word financing_weight (financing_member_turn ws) (fine_financing_member ws) (suc (length ws)) 1 (omega arith)))

  fine_off_balance : kind_of (word ws 0) ≡ 10 → Fine (off_balance_turn ws)
  unfolding off_balance_turn off_balance_at
  fine_off_balance e =
      fine_record per_word (item_weight bands) ws 0 1 (off_balance_fault (word ws 0) (word ws 1)) (some (off_balance (off_balance_at ws)) 0) h (rw e)
      (λ r z. (omega arith, omega arith, omega arith))

  fine_item : Fine (item_of ws)
  unfolding item_of
  fine_item =
      fine_if per_word (item_weight bands) ws 0 (eqb (kind_of (word ws 0)) 2) (asset_turn ws) _ (λ e. fine_asset (eqb-true _ 2 e))
      (λ _. fine_if per_word (item_weight bands) ws 0 (eqb (kind_of (word ws 0)) 4) (derivative_set_turn ws) _ (λ e. fine_derivatives (eqb-true _ 4 e))
      (λ _. fine_if per_word (item_weight bands) ws 0 (eqb (kind_of (word ws 0)) 8) (financing_set_turn ws) _ (λ e. fine_set (eqb-true _ 8 e))
      (λ _. fine_if per_word (item_weight bands) ws 0 (eqb (kind_of (word ws 0)) 10) (off_balance_turn ws) (bad 5 0) (λ e. fine_off_balance (eqb-true _ 10 e))
      (λ _. (omega arith, omega arith)))))

-- ---- places of the book

abbrev pub placed_weight : Bands → Placed → ℕ
placed_weight bands p = item_weight bands p.item

fine_placed : (n C : ℕ) (f : Item → ℕ) (at : ℕ) (t : Turn Item) → FineTurn n C f 0 t → FineTurn (at + n) C (λ (p : Placed). f p.item) at (placed at t)
fine_placed n C f at over h = tt
fine_placed n C f at (bad number place) h = (omega arith, omega arith)
fine_placed n C f at (some i number place) h = (omega arith, omega arith, omega arith)

pub fine_item_turn : (bands : Bands) (ws : List ℕ) (at : ℕ) → at ≤ length ws → FineTurn (length ws) per_word (placed_weight bands) at (item_turn ws at)
unfolding item_turn
fine_item_turn bands ws at h =
    fine_if per_word (placed_weight bands) ws at (leb (length ws) at) (bad 14 (length ws)) _ (λ _. (omega arith, omega arith))
    (λ l. fine_if per_word (placed_weight bands) ws at (eqb (kind_of (word ws at)) 15) (sound (end_fault ws at) at over) (placed at (item_of (drop at ws)))
    (λ _. fine_sound per_word (placed_weight bands) ws at (end_fault ws at) over h (λ _. tt))
    (λ _. whole (leb-false _ _ l)))
  where
    n : at + length (drop at ws) ≡ length ws
    n = omega (arith, length-drop at ws)

    whole : at < length ws → FineTurn (length ws) per_word (placed_weight bands) at (placed at (item_of (drop at ws)))
    whole l =
        rw n at
        (fine_placed (length (drop at ws)) per_word (item_weight bands) at (item_of (drop at ws)) (fine_item bands (drop at ws) (omega (arith, length-drop at ws))))

-- ---- protections add nothing, and end within the book

pub nothing : Protection → ℕ
nothing p = 0

pub fine_protection : (ws : List ℕ) (at : ℕ) → at ≤ length ws → FineTurn (length ws) per_word nothing at (protection_turn ws at)
unfolding protection_turn nothing
fine_protection ws at h =
    fine_if per_word nothing ws at (leb (length ws) at) (bad 14 (length ws)) _ (λ _. (omega arith, omega arith))
    (λ l. fine_if per_word nothing ws at (not (eqb (kind_of (word ws at)) 3)) (bad 5 at) _ (λ _. (omega arith, omega arith))
    (λ k. fine_record per_word nothing ws at 3 (protection_fault (word ws at) (word ws (at + 1)) (word ws (at + 2)) (word ws (at + 3))) (some (protection_at ws at) 0)
    (leb-false _ _ l) (rw (eqb-true (kind_of (word ws at)) 3 (not-false _ k)))
    (λ r z. (omega arith, omega arith, omega arith))))

-- ---- the book

pub items_small : (bands : Bands) (ws : List ℕ) → first_record ≤ length ws → sum_over (item_weight bands) (items_of ws).records ≤ per_word * length ws
unfolding items_of protections_of
items_small bands ws h = go (protections_of ws) (eqb (protections_of ws).number 0) (fine_run (length ws) per_word nothing (protection_turn ws) (fine_protection ws) (head_of ws).protections first_record h)
  where
    go : (r : Run Protection) (b : Bool) → FineRun (length ws) per_word nothing first_record r
        → sum_over (item_weight bands) (cond b (run_from (item_turn ws) (suc (length ws)) r.place) (ended r.number r.place)).records ≤ per_word * length ws
    go r true f =
        let e = fine_run (length ws) per_word (placed_weight bands) (item_turn ws) (fine_item_turn bands ws) (suc (length ws)) r.place f.within in
        omega (arith, e.small, e.within)
    go r false f = omega arith
