-- The loop over the trades of a financing set: what holds at its head, and what each way out of it returns. Assumes nothing.
use Prim.Native.Nat.{ℕ, zero, suc, ◌+◌, ◌*◌, ◌^◌, ◌≤◌, ◌<◌, min}
use mathlib.Core.Path.{◌≡◌, refl, sym, ◌∙◌, ap}
use mathlib.Core.Bool.{Bool, true, false, cond}
use mathlib.Core.List.{List}
use native.Mathlib.Omega.{arith}
use borrow.Author.Tests.{eqb-true, eqb-false}
use lib.Dec.{eqb}
use lib.ListN.{length}
use Rattle.rules.specs.Word.{word, kind_of, bit_of, size_of}
use Rattle.rules.specs.Book.{FinancingTrade}
use Rattle.rules.specs.Run.{bad, some, Run, with_one}
use Rattle.rules.specs.Read.{lacks, stands, last_days_at, financing_trade_at, financing_trade_turn, financing_member_turn}
use Rattle.rules.proofs.Lists.{and_left, and_right}
use Rattle.rules.proofs.Along.{Along, along_over, along_bad, along_one}
use Rattle.records.specs.Cause.{record_cause}
use Rattle.records.proofs.Words.{record_faulty, record_good}
use Rattle.laws.proofs.Records.{stands_is, amounts_at_lem, lacks_room}
use Rattle.financing.specs.declared.tally.FinancingTally.{FinancingTally}
use Rattle.financing.specs.Weighing.{whole, refused, no_tally, settled, tallied, tally_from, weighed_to, weighed_of, trades_of, tally_sum, TallyRoomy}
use Rattle.financing.specs.declared.read.FinancingTradeWords.{FinancingTradeWords}
use Rattle.financing.specs.Words.{financing_trade_words, financing_trade_of, financing_trade_fault_of, financing_trade_cause}
use Rattle.financing.specs.Good.{sound_trade, PlainTrade}
use Rattle.financing.proofs.Order.{days_behind}
use Rattle.financing.proofs.Sound.{sound_plain}

-- the words at a place are the record there
as_read : (ws : List ℕ) (at : ℕ) → financing_trade_of (financing_trade_words ws at) ≡ financing_trade_at ws at
unfolding financing_trade_at
as_read ws at = refl

-- a tally at a place of the part: what is left weighs to the whole, its day is that of the trade before, and its sums are small
pub record AtTrade (ws : List ℕ) (t : FinancingTally) (at : ℕ) : Type 0 where
  pub along : Along (length ws) (financing_member_turn ws) weighed_of (weighed_of no_tally (trades_of ws)) t at
  pub day : t.day ≡ last_days_at ws at
  pub small : tally_sum t ≤ 2 ^ 27 * at

module _ (ws : List ℕ) (t : FinancingTally) (at : ℕ) (i : AtTrade ws t at) where
  pub tally_roomy : length ws ≤ 2 ^ 20 → TallyRoomy t
  tally_roomy h = omega (arith, i.along.within)

  -- no trade stands here
  pub trades_over : (r : Bool) → r ≡ stands 9 ws at → r ≡ false → whole t at ≡ weighed_of no_tally (trades_of ws)
  unfolding financing_member_turn tally_from
  trades_over r rq e = along_over (length ws) (financing_member_turn ws) weighed_of _ t at i.along (simp (← rq, e))

  fault : ℕ
  fault = financing_trade_fault_of (bit_of 1 (word ws 0)) (last_days_at ws at) (financing_trade_words ws at)

  -- the cause, by the day of the tally and by that of the definition
  cause_is : financing_trade_cause (bit_of 1 (word ws 0)) t.day ws at ≡ record_cause 7 ws at fault
  unfolding fault
  cause_is = ap (λ (d : ℕ). financing_trade_cause (bit_of 1 (word ws 0)) d ws at) i.day

  -- one stands here
  module _ (e : stands 9 ws at ≡ true) where
    there : (at < length ws) × (kind_of (word ws at) ≡ 9)
    there = stands_is 9 ws at e

    here : financing_member_turn ws at ≡ financing_trade_turn ws at
    unfolding financing_member_turn
    here = simp e

  pub trade_there : (r : Bool) → r ≡ stands 9 ws at → r ≡ true → at < length ws
  trade_there r rq e = (there (sym rq ∙ e)).0

  module _ (g : Bool) (gq : g ≡ sound_trade t.day ws at) where
    -- a faulty trade stands here
    module _ (b : g ≡ false) (r : Bool) (rq : r ≡ stands 9 ws at) (e : r ≡ true) (agent : Bool) (aq : agent ≡ bit_of 1 (word ws 0)) (f : ℕ) (fq : f ≡ financing_trade_cause agent t.day ws at) where
      fault_is : f ≡ record_cause 7 ws at fault
      fault_is = fq ∙ ap (λ (x : Bool). financing_trade_cause x t.day ws at) aq ∙ cause_is

      pub trade_stop : refused f at ≡ weighed_of no_tally (trades_of ws)
      unfolding tally_from financing_trade_turn fault
      trade_stop =
          go f n ∙ along_bad (length ws) (financing_member_turn ws) weighed_of _ t at i.along f at
          (here s ∙ record_faulty ws at 7 (amounts_at_lem _ (there s).1) fault (some (financing_trade_at ws at) 0) (λ z. n (fault_is ∙ z)) ∙ ap (λ (x : ℕ). bad x at) (sym fault_is))
        where
          s : stands 9 ws at ≡ true
          s = sym rq ∙ e

          n : f ≡ 0 → ⊥
          n z = eqb-false _ _ (rw s at (sym gq ∙ b)) (cause_is ∙ sym fault_is ∙ z)

          go : (x : ℕ) → (x ≡ 0 → ⊥) → refused x at ≡ weighed_to t x at
          go zero m = absurd (m refl)
          go (suc x) m = refl

    -- a trade without a fault
    module _ (z : g ≡ true) where
      stands_here : stands 9 ws at ≡ true
      stands_here = and_left (stands 9 ws at) _ (sym gq ∙ z)

      good : (lacks 7 ws at ≡ false) × (financing_trade_turn ws at ≡ some (financing_trade_at ws at) 0 (at + 8))
      unfolding financing_trade_turn fault
      good =
          record_good ws at 7 (amounts_at_lem _ (there stands_here).1) fault (some (financing_trade_at ws at) 0)
          (sym cause_is ∙ eqb-true _ _ (and_right (stands 9 ws at) _ (sym gq ∙ z)))

      pub trade_room : at + 8 ≤ length ws
      trade_room = omega (arith, lacks_room 7 ws at good.0 (there stands_here).0)

      pub trade_plain : (w : FinancingTradeWords) → w ≡ financing_trade_words ws at → PlainTrade w
      trade_plain w wq = rw wq (sound_plain ws at t.day (omega (arith, trade_room)) (sym gq ∙ z))

      module _ (w : FinancingTradeWords) (wq : w ≡ financing_trade_words ws at) (u : FinancingTally) (uq : u ≡ tallied t (financing_trade_of w)) where
        q : u ≡ tallied t (financing_trade_at ws at)
        q = uq ∙ ap (λ (x : FinancingTradeWords). tallied t (financing_trade_of x)) wq ∙ ap (tallied t) (as_read ws at)

        added : (x : Run FinancingTrade) → weighed_of t (with_one (financing_trade_at ws at) x) ≡ weighed_of u x
        unfolding tally_from
        added x = ap (λ (y : FinancingTally). weighed_of y x) (sym q)

        -- the cash of a closed day and that of a new one
        cash_step : (b m : Bool) (closed receivable payable more owing : ℕ)
            → closed + cond b 0 (min receivable payable) + (cond b receivable 0 + cond m more 0) + (cond b payable 0 + cond m owing 0) ≤ closed + receivable + payable + more + owing
        cash_step true true closed receivable payable more owing = omega arith
        cash_step true false closed receivable payable more owing = omega arith
        cash_step false true closed receivable payable more owing = omega arith
        cash_step false false closed receivable payable more owing = omega arith

        pub trade_next_lem : AtTrade ws u (at + 8)
        unfolding tallied settled financing_trade_at
        trade_next_lem = record {
          along = along_one (length ws) (financing_member_turn ws) weighed_of _ t at i.along (financing_trade_at ws at) (at + 8) u
              (here stands_here ∙ good.1) (omega arith) trade_room added;
          day = ap (λ (x : FinancingTally). x.day) q ∙ sym (days_behind ws at good.0);
          small = omega (
            arith,
            ap tally_sum q,
            cash_step (eqb (size_of (word ws (at + 7))) t.day) (bit_of 0 (word ws at)) t.closed t.receivable t.payable (size_of (word ws (at + 3))) (size_of (word ws (at + 4))),
            i.small,
          );
        }
