-- How large the sums over the members of a set are, by the words that its members take up: 2 ^ 41 for each word. Assumes nothing.
use Prim.Native.Nat.{ℕ, suc, ◌+◌, ◌*◌, ◌^◌, ◌≤◌, ◌<◌}
use mathlib.Core.Path.{◌≡◌, refl}
use mathlib.Core.Bool.{cond}
use mathlib.Core.List.{List, [], ◌∷◌}
use native.Mathlib.Omega.{arith}
use lib.ListN.{length}
use Rattle.rules.specs.declared.Bands.{Bands}
use Rattle.rules.specs.Word.{word, kind_of, bit_of, names_in}
use Rattle.rules.specs.Book.{Cover, Member, trade, written, basket, FinancingTrade, total}
use Rattle.rules.specs.Run.{over, some, Run, run_from}
use Rattle.rules.specs.Faults.{trade_fault, basket_fault, written_fault, cover_fault, financing_trade_fault}
use Rattle.rules.specs.Read.{stands, cover_at, cover_turn, written_at, with_covers, written_turn, trade_at, trade_turn, grades_at, basket_at, basket_turn, member_turn, last_days_at, financing_trade_at, financing_trade_turn, financing_member_turn}
use Rattle.rules.specs.Weigh.{gain_in, add_on_in, written_in, covers_in}
use Rattle.rules.proofs.Runs.{FineTurn, FineRun, fine_run}
use Rattle.laws.proofs.Records.{amounts_at_lem, fine_kind, fine_record}
use Rattle.laws.proofs.FactorBounds.{gain_small, trade_add_on_lem, basket_add_on_lem, written_add_on_lem}

abbrev pub per_word : ℕ
per_word = 2 ^ 41

-- ---- covers

abbrev pub cover_weight : Cover → ℕ
cover_weight c = 1000 * c.amount

pub fine_cover : (ws : List ℕ) (at : ℕ) → at ≤ length ws → FineTurn (length ws) per_word cover_weight at (cover_turn ws at)
unfolding cover_turn cover_at
fine_cover ws at h =
    fine_kind per_word cover_weight ws at 7 _ over
    (λ l e. fine_record per_word cover_weight ws at 1 (cover_fault (word ws at) (word ws (at + 1))) (some (cover_at ws at) 0) l (rw e) (λ r z. (omega arith, omega arith, omega arith)))
    tt

covers_total : (cs : List Cover) → total cover_weight cs ≡ 1000 * total (λ (c : Cover). c.amount) cs
covers_total [] = refl
covers_total (c ∷ cs) = omega (arith, covers_total cs)

-- ---- members of a derivative set

-- twice the gain and the add-on, since they go into rows that are taken off again
abbrev pub member_weight : Bands → Member → ℕ
member_weight bands m = 2000 * gain_in m + 2 * add_on_in bands m + 1000 * written_in m + 1000 * covers_in m

pub members_total : (bands : Bands) (ms : List Member)
    → total (member_weight bands) ms ≡ 2000 * total gain_in ms + 2 * total (add_on_in bands) ms + 1000 * total written_in ms + 1000 * total covers_in ms
members_total bands [] = refl
members_total bands (m ∷ ms) = omega (arith, members_total bands ms)

module _ (bands : Bands) (ws : List ℕ) (at : ℕ) where
  trade_small : member_weight bands (trade (trade_at ws at)) ≤ 5 * per_word
  unfolding trade_at
  trade_small = omega (arith, gain_small (word ws (at + 1)), trade_add_on_lem bands (trade_at ws at) (omega arith) (omega arith))

  written_small : (covers : List Cover) → member_weight bands (written (written_at ws at covers)) ≤ 6 * per_word + total cover_weight covers
  unfolding written_at
  written_small covers = omega (arith, gain_small (word ws (at + 1)), written_add_on_lem (written_at ws at covers), covers_total covers)

  fine_trade : at < length ws → kind_of (word ws at) ≡ 5 → FineTurn (length ws) per_word (member_weight bands) at (trade_turn ws at)
  unfolding trade_turn
  fine_trade l e =
      fine_record per_word (member_weight bands) ws at 4
      (trade_fault (word ws at) (word ws (at + 1)) (word ws (at + 2)) (word ws (at + 3)) (word ws (at + 4)))
      (some (trade (trade_at ws at)) 0) l (rw e)
      (λ r z. (omega arith, omega arith, omega (arith, trade_small)))

  basket_small : member_weight bands (basket (basket_at ws at)) ≤ 3 * per_word
  unfolding basket_at
  basket_small = omega (arith, gain_small (word ws (at + 1)), basket_add_on_lem (basket_at ws at))

  fine_basket : at < length ws → kind_of (word ws at) ≡ 11 → FineTurn (length ws) per_word (member_weight bands) at (basket_turn ws at)
  unfolding basket_turn
  fine_basket l e =
      fine_record per_word (member_weight bands) ws at (names_in (word ws at) + 2)
      (basket_fault (word ws at) (word ws (at + 1)) (word ws (at + 2)) (grades_at ws at))
      (some (basket (basket_at ws at)) 0) l (amounts_at_lem (word ws at) e)
      (λ r z. (omega arith, omega arith, omega (arith, basket_small)))

  fine_covers : (covers : Run Cover) → FineRun (length ws) per_word cover_weight (at + 6) covers → FineTurn (length ws) per_word (member_weight bands) at (with_covers ws at covers)
  fine_covers covers r = (omega arith, r.within, omega (arith, r.small, written_small covers.records))

  fine_written : at < length ws → kind_of (word ws at) ≡ 6 → FineTurn (length ws) per_word (member_weight bands) at (written_turn ws at)
  unfolding written_turn
  fine_written l e =
      fine_record per_word (member_weight bands) ws at 5
      (written_fault (word ws at) (word ws (at + 1)) (word ws (at + 2)) (word ws (at + 3)) (word ws (at + 4)) (word ws (at + 5)))
      (λ (next : ℕ). with_covers ws at (run_from (cover_turn ws) (suc (length ws)) next)) l (rw e)
      (λ r z. fine_covers _ (fine_run (length ws) per_word cover_weight (cover_turn ws) (fine_cover ws) (suc (length ws)) (at + 6) (omega arith)))

  pub fine_member : at ≤ length ws → FineTurn (length ws) per_word (member_weight bands) at (member_turn ws at)
  unfolding member_turn
  fine_member h =
      fine_kind per_word (member_weight bands) ws at 5 (trade_turn ws at) (cond (stands 6 ws at) (written_turn ws at) (cond (stands 11 ws at) (basket_turn ws at) over)) fine_trade
      (fine_kind per_word (member_weight bands) ws at 6 (written_turn ws at) (cond (stands 11 ws at) (basket_turn ws at) over) fine_written
      (fine_kind per_word (member_weight bands) ws at 11 (basket_turn ws at) over fine_basket tt))

-- ---- trades of a financing set

-- twice the value lent: once in E* and once where the agent is exposed further
abbrev pub financing_weight : FinancingTrade → ℕ
financing_weight t = 1000 * t.asset + 1000 * t.receivable + 2000 * t.lent

pub financing_total : (ts : List FinancingTrade)
    → total financing_weight ts
    ≡ 1000 * total (λ (t : FinancingTrade). t.asset) ts + 1000 * total (λ (t : FinancingTrade). t.receivable) ts + 2000 * total (λ (t : FinancingTrade). t.lent) ts
financing_total [] = refl
financing_total (t ∷ ts) = omega (arith, financing_total ts)

fine_financing : (ws : List ℕ) (at : ℕ) → at < length ws → kind_of (word ws at) ≡ 9 → FineTurn (length ws) per_word financing_weight at (financing_trade_turn ws at)
unfolding financing_trade_turn financing_trade_at
fine_financing ws at l e =
    fine_record per_word financing_weight ws at 7
    (financing_trade_fault (bit_of 1 (word ws 0)) (last_days_at ws at) (word ws at) (word ws (at + 1)) (word ws (at + 2)) (word ws (at + 3)) (word ws (at + 4)) (word ws (at + 5)) (word ws (at + 6)) (word ws (at + 7)))
    (some (financing_trade_at ws at) 0) l (rw e)
    (λ r z. (omega arith, omega arith, omega arith))

pub fine_financing_member : (ws : List ℕ) (at : ℕ) → at ≤ length ws → FineTurn (length ws) per_word financing_weight at (financing_member_turn ws at)
unfolding financing_member_turn
fine_financing_member ws at h = fine_kind per_word financing_weight ws at 9 (financing_trade_turn ws at) over (fine_financing ws at) tt
