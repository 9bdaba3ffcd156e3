-- Trades, written credits and covers without a fault are told by tests of their whole words. Assumes nothing.
use Prim.Native.Nat.{ℕ, ◌+◌, ◌^◌, ◌<◌}
use mathlib.Core.Path.{◌≡◌, refl, ◌∙◌}
use mathlib.Core.Bool.{Bool, true, false, cond, not, ◌&&◌, ◌||◌, and-false}
use mathlib.Core.List.{List}
use native.Mathlib.Omega.{arith}
use borrow.Author.Tests.{lt-leb, lt-ltb}
use lib.Dec.{eqb, leb, ltb}
use lib.ListN.{length}
use Rattle.rules.specs.Word.{kind_of, payload_of, field_of, bit_of, size_of, faulty_amount, faulty_days, minus_zero}
use Rattle.rules.specs.Faults.{cause, trade_bits_fault, trade_fault, written_fault, cover_fault}
use Rattle.rules.specs.Read.{lacks}
use Rattle.records.specs.Cause.{sound_record}
use Rattle.weighing.specs.declared.read.TradeWords.{TradeWords}
use Rattle.weighing.specs.declared.read.WrittenWords.{WrittenWords}
use Rattle.weighing.specs.declared.read.CoverWords.{CoverWords}
use Rattle.weighing.specs.Words.{trade_words, trade_fault_of, resets_odd, good_trade, written_words, written_fault_of, good_written, cover_words, cover_fault_of, good_cover}

-- ---- the words of one whose words are there

trade_by_words : (t : TradeWords) → good_trade t
    ≡ (eqb (kind_of t.head) 5 && eqb (cond (not (eqb (kind_of t.reset_days) 0) || (not (eqb (kind_of t.days) 0) || (not (eqb (kind_of t.notional) 0) || (not (eqb (kind_of t.value) 0) || false)))) 6 (trade_fault_of t)) 0)
unfolding good_trade trade_fault cause
trade_by_words t =
    go (eqb (kind_of t.head) 5) (leb (2 ^ 13) (payload_of t.head)) (trade_bits_fault (field_of 0 3 t.head) (field_of 3 8 t.head) (bit_of 12 t.head))
    (eqb (kind_of t.value) 0) (minus_zero t.value) (eqb (kind_of t.notional) 0) (faulty_amount t.notional) (eqb (kind_of t.days) 0) (faulty_days t.days)
    (eqb (kind_of t.reset_days) 0) (faulty_days t.reset_days) (resets_odd t)
  where
    go : (kh ph b kv mv kn fn kd fd kr fr o : Bool) → (kh && not ph && not b && (kv && not mv && (kn && not fn) && (kd && not fd && (kr && not fr))) && not o)
        ≡ (kh && eqb (cond (not kr || (not kd || (not kn || (not kv || false)))) 6 (cond (ph || b) 7 (cond (mv || fn || fd || fr) 8 (cond o 9 0)))) 0)
    go false ph b kv mv kn fn kd fd kr fr o = refl
    go true ph b kv mv kn fn kd fd false fr o = simp and-false
    go true ph b kv mv kn fn false fd true fr o = simp and-false
    go true ph b kv mv false fn true fd true fr o = simp and-false
    go true ph b false mv true fn true fd true fr o = simp and-false
    go true true b true mv true fn true fd true fr o = refl
    go true false true true mv true fn true fd true fr o = refl
    go true false false true true true fn true fd true fr o = refl
    go true false false true false true true true fd true fr o = refl
    go true false false true false true false true true true fr o = refl
    go true false false true false true false true false true true o = refl
    go true false false true false true false true false true false true = refl
    go true false false true false true false true false true false false = refl

written_by_words : (w : WrittenWords) → good_written w
    ≡ (eqb (kind_of w.head) 6 && eqb (cond (not (eqb (kind_of w.premiums) 0) || (not (eqb (kind_of w.days) 0) || (not (eqb (kind_of w.loss_taken) 0) || (not (eqb (kind_of w.notional) 0) || (not (eqb (kind_of w.value) 0) || false))))) 6 (written_fault_of w)) 0)
unfolding good_written written_fault cause
written_by_words w =
    go (eqb (kind_of w.head) 6) (leb (2 ^ 23) (payload_of w.head)) (eqb (kind_of w.value) 0) (minus_zero w.value) (eqb (kind_of w.notional) 0) (faulty_amount w.notional)
    (eqb (kind_of w.loss_taken) 0) (faulty_amount w.loss_taken) (eqb (kind_of w.premiums) 0) (faulty_amount w.premiums) (eqb (kind_of w.days) 0) (faulty_days w.days)
    (ltb (size_of w.notional) (size_of w.loss_taken))
  where
    go : (kh ph kv mv kn fn kl fl kp fp kd fd o : Bool) → (kh && not ph && (kv && not mv && (kn && not fn) && (kl && not fl && (kp && not fp)) && (kd && not fd)) && not o)
        ≡ (kh && eqb (cond (not kp || (not kd || (not kl || (not kn || (not kv || false))))) 6 (cond ph 7 (cond (mv || fn || fl || fd || fp) 8 (cond o 9 0)))) 0)
    go false ph kv mv kn fn kl fl kp fp kd fd o = refl
    go true ph kv mv kn fn kl fl false fp kd fd o = simp and-false
    go true ph kv mv kn fn kl fl true fp false fd o = simp and-false
    go true ph kv mv kn fn false fl true fp true fd o = simp and-false
    go true ph kv mv false fn true fl true fp true fd o = simp and-false
    go true ph false mv true fn true fl true fp true fd o = simp and-false
    go true true true mv true fn true fl true fp true fd o = refl
    go true false true true true fn true fl true fp true fd o = refl
    go true false true false true true true fl true fp true fd o = refl
    go true false true false true false true true true fp true fd o = refl
    go true false true false true false true false true true true true o = refl
    go true false true false true false true false true true true false o = refl
    go true false true false true false true false true false true true o = refl
    go true false true false true false true false true false true false true = refl
    go true false true false true false true false true false true false false = refl

cover_by_words : (c : CoverWords) → good_cover c ≡ (eqb (kind_of c.head) 7 && eqb (cond (not (eqb (kind_of c.amount) 0) || false) 6 (cover_fault_of c)) 0)
unfolding good_cover cover_fault cause
cover_by_words c = go (eqb (kind_of c.head) 7) (leb (2 ^ 12) (payload_of c.head)) (eqb (kind_of c.amount) 0) (faulty_amount c.amount) (eqb (size_of c.amount) 0)
  where
    go : (kh ph ka fa z : Bool) → (kh && not ph && (ka && not fa && not z)) ≡ (kh && eqb (cond (not ka || false) 6 (cond ph 7 (cond (fa || z) 8 0))) 0)
    go false ph ka fa z = refl
    go true ph false fa z = simp and-false
    go true true true fa z = refl
    go true false true true z = refl
    go true false true false true = refl
    go true false true false false = refl

-- ---- such a record at a place

module _ (ws : List ℕ) (at : ℕ) where
  pub trade_is : at + 4 < length ws → good_trade (trade_words ws at) ≡ sound_record 5 4 ws at (trade_fault_of (trade_words ws at))
  unfolding lacks
  trade_is h =
      trade_by_words (trade_words ws at)
      ∙ simp (
        lt-ltb at (length ws) (omega arith),
        lt-leb (length ws) (at + 1) (omega arith),
        lt-leb (length ws) (at + 2) (omega arith),
        lt-leb (length ws) (at + 3) (omega arith),
        lt-leb (length ws) (at + 4) (omega arith),
      )

  pub written_is : at + 5 < length ws → good_written (written_words ws at) ≡ sound_record 6 5 ws at (written_fault_of (written_words ws at))
  unfolding lacks
  written_is h =
      written_by_words (written_words ws at)
      ∙ simp (
        lt-ltb at (length ws) (omega arith),
        lt-leb (length ws) (at + 1) (omega arith),
        lt-leb (length ws) (at + 2) (omega arith),
        lt-leb (length ws) (at + 3) (omega arith),
        lt-leb (length ws) (at + 4) (omega arith),
        lt-leb (length ws) (at + 5) (omega arith),
      )

  pub cover_is : at + 1 < length ws → good_cover (cover_words ws at) ≡ sound_record 7 1 ws at (cover_fault_of (cover_words ws at))
  unfolding lacks
  cover_is h = cover_by_words (cover_words ws at) ∙ simp (lt-ltb at (length ws) (omega arith), lt-leb (length ws) (at + 1) (omega arith))
