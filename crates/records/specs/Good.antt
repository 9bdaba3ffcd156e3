-- An item of one record without a fault is told by few tests of its words. Assumes nothing.
use Prim.Native.Nat.{ℕ, ◌+◌, ◌^◌, ◌<◌}
use mathlib.Core.Path.{◌≡◌, refl, ◌∙◌}
use mathlib.Core.Bool.{Bool, true, false, not, ◌&&◌, ◌||◌, cond, and-false}
use mathlib.Core.List.{List}
use native.Mathlib.Omega.{arith}
use borrow.Author.Tests.{lt-leb, le-leb, lt-ltb, ltb-true, ltb-false}
use lib.Dec.{eqb, leb, ltb}
use lib.ListN.{length}
use Rattle.rules.specs.Word.{word, kind_of, payload_of, field_of, size_of, faulty_amount}
use Rattle.rules.specs.Faults.{cause, asset_fault, off_balance_fault}
use Rattle.rules.specs.Read.{lacks}
use Rattle.figures.proofs.Figures.{no_figure}
use Rattle.records.specs.declared.assets.AssetWords.{AssetWords}
use Rattle.records.specs.declared.commitments.OffBalanceWords.{OffBalanceWords}
use Rattle.records.specs.Cause.{sound_record}
use Rattle.records.specs.Step.{asset_words, good_asset, off_balance_words, good_off_balance}

-- ---- the words of one whose words are there

at_least : (a b : ℕ) → leb a b ≡ not (ltb b a)
at_least a b = go (ltb b a) refl
  where
    go : (t : Bool) → ltb b a ≡ t → leb a b ≡ not t
    go true e = lt-leb a b (ltb-true b a e)
    go false e = le-leb a b (ltb-false b a e)

asset_by_words : (a : AssetWords) → good_asset a
    ≡ (eqb (kind_of a.head) 2 && eqb (cond (not (eqb (kind_of a.deducted) 0) || (not (eqb (kind_of a.provision) 0) || (not (eqb (kind_of a.carrying) 0) || false))) 6 (asset_fault a.head a.carrying a.provision a.deducted)) 0)
unfolding good_asset asset_fault cause
asset_by_words a =
    rw (at_least (size_of a.provision + size_of a.deducted) (size_of a.carrying))
    (go (eqb (kind_of a.head) 2) (leb 2 (payload_of a.head)) (eqb (kind_of a.carrying) 0) (faulty_amount a.carrying) (eqb (kind_of a.provision) 0) (faulty_amount a.provision)
    (eqb (kind_of a.deducted) 0) (faulty_amount a.deducted) (ltb (size_of a.carrying) (size_of a.provision + size_of a.deducted)))
  where
    go : (kh ph kc fc kp fp kd fd o : Bool) → (kh && not ph && (kc && not fc && (kp && not fp) && (kd && not fd)) && not o)
        ≡ (kh && eqb (cond (not kd || (not kp || (not kc || false))) 6 (cond ph 7 (cond (fc || fp || fd) 8 (cond o 9 0)))) 0)
    go false ph kc fc kp fp kd fd o = refl
    go true ph kc fc kp fp false fd o = simp and-false
    go true ph kc fc false fp true fd o = simp and-false
    go true ph false fc true fp true fd o = simp and-false
    go true true true fc true fp true fd o = refl
    go true false true true true fp true fd o = refl
    go true false true false true true true fd o = refl
    go true false true false true false true true o = refl
    go true false true false true false true false true = refl
    go true false true false true false true false false = refl

off_balance_by_words : (o : OffBalanceWords) → good_off_balance o ≡ (eqb (kind_of o.head) 10 && eqb (cond (not (eqb (kind_of o.notional) 0) || false) 6 (off_balance_fault o.head o.notional)) 0)
unfolding good_off_balance off_balance_fault cause
off_balance_by_words o =
    rw (no_figure (field_of 0 4 o.head) (field_of 4 4 o.head))
    (go (eqb (kind_of o.head) 10) (leb (2 ^ 8) (payload_of o.head)) (eqb (kind_of o.notional) 0) (faulty_amount o.notional) (ltb 10 (field_of 0 4 o.head)) (ltb 11 (field_of 4 4 o.head)))
  where
    go : (kh ph kn fn x y : Bool) → (kh && not ph && (kn && not fn) && not (x || y)) ≡ (kh && eqb (cond (not kn || false) 6 (cond (ph || x || y) 7 (cond fn 8 0))) 0)
    go false ph kn fn x y = refl
    go true ph false fn x y = simp and-false
    go true true true fn x y = refl
    go true false true fn true y = simp and-false
    go true false true fn false true = simp and-false
    go true false true true false false = refl
    go true false true false false false = refl

-- ---- such an item at a place

module _ (ws : List ℕ) (at : ℕ) where
  pub asset_is : at + 3 < length ws → good_asset (asset_words ws at) ≡ sound_record 2 3 ws at (asset_fault (word ws at) (word ws (at + 1)) (word ws (at + 2)) (word ws (at + 3)))
  unfolding lacks
  asset_is h =
      asset_by_words (asset_words ws at)
      ∙ simp (
        lt-ltb at (length ws) (omega arith),
        lt-leb (length ws) (at + 1) (omega arith),
        lt-leb (length ws) (at + 2) (omega arith),
        lt-leb (length ws) (at + 3) (omega arith),
      )

  pub off_balance_is : at + 1 < length ws → good_off_balance (off_balance_words ws at) ≡ sound_record 10 1 ws at (off_balance_fault (word ws at) (word ws (at + 1)))
  unfolding lacks
  off_balance_is h = off_balance_by_words (off_balance_words ws at) ∙ simp (lt-ltb at (length ws) (omega arith), lt-leb (length ws) (at + 1) (omega arith))
