-- The trades that are read behind the head of a financing set never fall: each is held against the word before it. Assumes nothing.
use Prim.Native.Nat.{ℕ, zero, suc, ◌+◌, ◌-◌, ◌≤◌}
use mathlib.Core.Path.{◌≡◌, refl}
use mathlib.Core.Bool.{Bool, true, false, not, ◌||◌, cond}
use mathlib.Core.List.{List}
use native.Mathlib.Omega.{arith}
use borrow.Author.Tests.{eqb-true, eq-eqb, ne_eqb, ltb-false, not-false}
use lib.Dec.{eqb, leb}
use lib.ListN.{length}
use Rattle.rules.specs.Word.{word, kind_of, size_of, bit_of}
use Rattle.rules.specs.Book.{FinancingTrade}
use Rattle.rules.specs.Run.{Turn, over, bad, some, Run, then_run, run_from, sound}
use Rattle.rules.specs.Faults.{financing_trade_fault}
use Rattle.rules.specs.Read.{lacks, record_then, stands, last_days_at, financing_trade_at, financing_trade_turn, financing_member_turn}
use Rattle.rules.proofs.Lists.{or_left, or_right}
use Rattle.laws.proofs.Records.{stands_is}
use Rattle.laws.proofs.Valid.{cause_none}
use Rattle.financing.specs.Netting.{NeverFall}
use Rattle.financing.specs.Words.{financing_trade_words, financing_trade_fault_of}

module _ (ws : List ℕ) where
  -- ---- the days of the trade before

  -- behind a trade all of whose words are there
  pub days_behind : (at : ℕ) → lacks 7 ws at ≡ false → last_days_at ws (at + 8) ≡ size_of (word ws (at + 7))
  unfolding lacks
  days_behind at e = rw p (simp (eq-eqb _ _ amount))
    where
      p : at + 8 - 1 ≡ at + 7
      p = omega arith

      amount : kind_of (word ws (at + 7)) ≡ 0
      amount =
          let there = or_left (leb (length ws) (at + 7) || not (eqb (kind_of (word ws (at + 7))) 0)) (lacks 6 ws at) e in
          eqb-true _ 0 (not-false _ (or_right (leb (length ws) (at + 7)) _ there))

  -- behind the head
  pub days_first : kind_of (word ws 0) ≡ 8 → last_days_at ws 1 ≡ 0
  days_first e = simp (ne_eqb (kind_of (word ws 0)) 0 (λ z. omega arith))

  -- ---- a turn

  abbrev InOrder : ℕ → Turn FinancingTrade → Type 0
  InOrder at over = Unit {0}
  InOrder at (bad number place) = Unit {0}
  InOrder at (some t number next) = (last_days_at ws at ≤ t.days) × (last_days_at ws next ≡ t.days)

  not_fallen : (agent : Bool) (last at : ℕ) → financing_trade_fault_of agent last (financing_trade_words ws at) ≡ 0 → last ≤ size_of (word ws (at + 7))
  unfolding financing_trade_fault
  not_fallen agent last at e =
      let a = (cause_none 6 _ _ e).1 in
      let b = (cause_none 7 _ _ a).1 in
      let c = (cause_none 8 _ _ b).1 in
      ltb-false _ _ (cause_none 9 _ _ c).0

  trade_in_order : (at : ℕ) → kind_of (word ws at) ≡ 9 → InOrder at (financing_trade_turn ws at)
  unfolding financing_trade_turn record_then financing_trade_at
  trade_in_order at k = rw k (absent (lacks 7 ws at) refl)
    where
      fault : ℕ
      fault = financing_trade_fault_of (bit_of 1 (word ws 0)) (last_days_at ws at) (financing_trade_words ws at)

      own : (f : ℕ) → fault ≡ f → lacks 7 ws at ≡ false → InOrder at (sound f at (some (financing_trade_at ws at) 0 (at + 8)))
      own zero e l = (not_fallen (bit_of 1 (word ws 0)) (last_days_at ws at) at e, days_behind at l)
      own (suc f) e l = tt

      absent : (b : Bool) → lacks 7 ws at ≡ b → InOrder at (cond b (bad 6 at) (sound fault at (some (financing_trade_at ws at) 0 (at + 8))))
      absent true l = tt
      absent false l = own fault refl l

  in_order : (at : ℕ) → InOrder at (financing_member_turn ws at)
  unfolding financing_member_turn
  in_order at = go (stands 9 ws at) refl
    where
      go : (b : Bool) → stands 9 ws at ≡ b → InOrder at (cond b (financing_trade_turn ws at) over)
      go true e = trade_in_order at (stands_is 9 ws at e).1
      go false e = tt

  -- ---- a run

  then_order : (at : ℕ) (t : Turn FinancingTrade) → InOrder at t → (rest : ℕ → Run FinancingTrade)
      → ((next : ℕ) → NeverFall (last_days_at ws next) (rest next).records) → NeverFall (last_days_at ws at) (then_run t at rest).records
  then_order at over h rest r = tt
  then_order at (bad number place) h rest r = tt
  then_order at (some t zero next) h rest r = (h.0, rw h.1 at (r next))
  then_order at (some t (suc number) place) h rest r = (h.0, tt)

  run_in_order : (most at : ℕ) → NeverFall (last_days_at ws at) (run_from (financing_member_turn ws) most at).records
  unfolding run_from
  run_in_order zero at = tt
  run_in_order (suc most) at = then_order at (financing_member_turn ws at) (in_order at) (run_from (financing_member_turn ws) most) (λ next. run_in_order most next)

  pub never_fall : kind_of (word ws 0) ≡ 8 → (most : ℕ) → NeverFall 0 (run_from (financing_member_turn ws) most 1).records
  never_fall k most = rw (days_first k) at (run_in_order most 1)
