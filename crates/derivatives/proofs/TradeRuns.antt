-- The loop over a run of trades, and what its set makes of it. Assumes nothing.
use Prim.Native.Nat.{ℕ, ◌+◌, ◌≤◌}
use mathlib.Core.Path.{◌≡◌, sym, ◌∙◌}
use mathlib.Core.Bool.{Bool, true, true≢false}
use mathlib.Core.List.{List}
use native.Mathlib.Omega.{arith}
use borrow.Author.Tests.{eqb-true}
use lib.Dec.{eqb}
use Rattle.std.specs.Prelude.{None, Ok}
use Rattle.rules.specs.declared.Bands.{Bands}
use Rattle.rules.specs.Book.{trade}
use Rattle.rules.specs.Read.{stands}
use Rattle.rules.proofs.Lists.{and_left, and_right}
use Rattle.records.specs.Readable.{Readable}
use Rattle.weighing.specs.declared.read.TradeWords.{TradeWords}
use Rattle.weighing.specs.declared.tally.Tally.{Tally}
use Rattle.derivatives.specs.declared.trades.TradeRun.{TradeRun}
use Rattle.derivatives.specs.declared.members.MemberStep.TheVariants.{Next}
use Rattle.weighing.specs.Words.{trade_words, trade_of, trade_cause, sound_trade}
use Rattle.weighing.specs.Gathered.{plus_member}
use Rattle.derivatives.specs.Ahead.{from_member, set_ahead, Standing, MemberRead, TradesRead}
use Rattle.derivatives.proofs.Turns.{trade_readable, trade_good}

-- ---- the loop over a run: what lies ahead stays the same at every turn

pub record Passing (bands : Bands) (ws : List ℕ) (from : ℕ) (first : Tally) (t : Tally) (at : ℕ) : Type 0 where
  pub same : (begin : ℕ) → from_member bands ws begin first from ≡ from_member bands ws begin t at
  pub standing : Standing ws at t
  pub reached : from ≤ at

module _ {bands : Bands} {ws : List ℕ} {from at : ℕ} {first t : Tally} (p : Passing bands ws from first t at) {good : Bool} (q : good ≡ sound_trade ws at) where
  -- a good trade
  module _ (g : good ≡ true) where
    here : stands 5 ws at ≡ true
    here = and_left (stands 5 ws at) (eqb (trade_cause ws at) 0) (sym q ∙ g)

    sound : trade_cause ws at ≡ 0
    sound = eqb-true (trade_cause ws at) 0 (and_right (stands 5 ws at) (eqb (trade_cause ws at) 0) (sym q ∙ g))

    pub words_there : Readable (at + 5) ws
    words_there = trade_readable p.standing here sound

    pub passing_next : {x : TradeWords} → x ≡ trade_words ws at → {more : Tally} → more ≡ plus_member bands t (trade (trade_of x)) → Passing bands ws from first more (at + 5)
    unfolding set_ahead
    passing_next xq {more} mq =
        let r : MemberRead bands ws at t (Ok (Next (record { at = at + 5; tally = more; credit = None }))) = trade_good p.standing here sound bands xq mq in
        record {
          same = λ begin. p.same begin ∙ r.0 begin;
          standing = record { readable = r.1.0.readable; small = r.1.0.small };
          reached = omega (arith, p.reached);
        }

-- ---- a run where a trade stands

module _ {bands : Bands} {ws : List ℕ} {at : ℕ} {t : Tally} {r : TradeRun} (k : stands 5 ws at ≡ true) (run : TradesRead bands ws at t r) where
  -- it did not move
  pub run_faulty : r.next ≡ at → trade_cause ws at ≡ 0 → ⊥
  run_faulty e z = true≢false (sym (simp (k, z)) ∙ rw e at run.over)

  -- it did
  pub run_moved : (r.next ≡ at → ⊥) → MemberRead bands ws at t (Ok (Next (record { at = r.next; tally = r.tally; credit = None })))
  unfolding set_ahead
  run_moved n = (run.same, (record { readable = run.standing.readable; small = run.standing.small; credit = tt }, omega (arith, run.reached)))
