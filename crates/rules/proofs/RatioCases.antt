-- Tier 1, the ratio and the verdict at each of their cases, as the code tells them apart: by a gain and a loss that are compared,
-- and by magnitudes. Assumes nothing.
use mathlib.Core.Path.{◌≡◌}
use Prim.Native.Nat.{ℕ, zero, suc, ◌+◌, ◌*◌, ◌/◌, ◌-◌, ◌≤◌, ◌<◌}
use native.Mathlib.Nat.{le_antisymm, div-lt_iff_lt-mul, lt-div-mul-add, zero-div, zero-mod}
use native.Mathlib.Omega.{arith}
use borrow.Author.Tests.{le-leb, lt-leb}
use lib.Dec.{leb}
use lib.IntN.{ℤ, pos, neg_ℤ, ◌*ℤ◌}
use lib.Signed.{le_z}
use Rattle.rules.specs.Ratio.{tier1_of, floor, ratio_of, verdict_of}
use Rattle.rules.specs.Weighted.{ceil}
use Rattle.rules.proofs.Ceil.{ceil_enough, ceil_least}
use Rattle.rules.proofs.Differences.{Difference, of_pos, of_minus, of_sub, as_difference, same, times, times_minus, test_is}

-- ---- Tier 1

pub tier1_difference : (gain loss : ℕ) → Difference (tier1_of gain loss) (1000 * gain) (1000 * loss)
tier1_difference gain loss = times 1000 (of_sub gain loss)

tier1_gain : (gain loss : ℕ) → loss ≤ gain → tier1_of gain loss ≡ pos (1000 * (gain - loss))
tier1_gain gain loss h = same (tier1_difference gain loss) (as_difference _ _ (of_pos (1000 * (gain - loss))) (omega arith))

tier1_loss : (gain loss : ℕ) → gain < loss → tier1_of gain loss ≡ neg_ℤ (pos (1000 * (loss - gain)))
tier1_loss gain loss h = same (tier1_difference gain loss) (as_difference _ _ (of_minus (1000 * (loss - gain))) (omega arith))

-- ---- the ratio

-- below 0 what is rounded down has its magnitude rounded up
floor_minus : (m d : ℕ) → 0 < d → floor (neg_ℤ (pos m)) d ≡ neg_ℤ (pos (ceil m d))
floor_minus zero d p = simp (zero-div, zero-mod)
floor_minus (suc m) d p = rw up
  where
    up : ceil (suc m) d ≡ suc (m / d)
    up = le_antisymm (ceil_least (suc m) d (suc (m / d)) p (omega (arith, lt-div-mul-add {a = m} p))) ((div-lt_iff_lt-mul p).1 (ceil_enough (suc m) d p))

ratio_minus : (m e : ℕ) → 0 < e → ratio_of (neg_ℤ (pos m)) (pos e) ≡ neg_ℤ (pos (ceil (10000 * m) e))
unfolding ratio_of
ratio_minus m e p = simp (lt-leb e 0 p, times_minus 10000 m) (floor_minus (10000 * m) e p)

pub ratio_none : (t : ℤ) (e : ℕ) → e ≡ 0 → ratio_of t (pos e) ≡ pos 0
unfolding ratio_of
ratio_none t e z = rw z

pub ratio_gain : (gain loss e : ℕ) → loss ≤ gain → 0 < e → ratio_of (tier1_of gain loss) (pos e) ≡ pos (10000 * (1000 * (gain - loss)) / e)
unfolding ratio_of
ratio_gain gain loss e h p = rw (tier1_gain gain loss h, lt-leb e 0 p)

pub ratio_loss : (gain loss e : ℕ) → gain < loss → 0 < e → ratio_of (tier1_of gain loss) (pos e) ≡ neg_ℤ (pos (ceil (10000 * (1000 * (loss - gain))) e))
ratio_loss gain loss e h p = rw (tier1_loss gain loss h) (ratio_minus (1000 * (loss - gain)) e p)

-- ---- the verdict

pub verdict_none : (t : ℤ) (e : ℕ) → e ≡ 0 → verdict_of t (pos e) ≡ 2
unfolding verdict_of
verdict_none t e z = rw z

module _ (gain loss e : ℕ) (p : 0 < e) where
  -- "100 times row 20 is at least 3 times row 21", over ℕ
  enough_is : le_z (pos 3 *ℤ pos e) (pos 100 *ℤ tier1_of gain loss) ≡ leb (3 * e + 100 * (1000 * loss)) (100 * (1000 * gain) + 3 * 0)
  enough_is = test_is (times 3 (of_pos e)) (times 100 (tier1_difference gain loss))

  pub verdict_met : 3 * e + 100000 * loss ≤ 100000 * gain → verdict_of (tier1_of gain loss) (pos e) ≡ 0
  unfolding verdict_of
  verdict_met h = rw (lt-leb e 0 p, enough_is, le-leb (3 * e + 100 * (1000 * loss)) (100 * (1000 * gain) + 3 * 0) (omega arith))

  pub verdict_missed : 100000 * gain < 3 * e + 100000 * loss → verdict_of (tier1_of gain loss) (pos e) ≡ 1
  unfolding verdict_of
  verdict_missed h = rw (lt-leb e 0 p, enough_is, lt-leb (3 * e + 100 * (1000 * loss)) (100 * (1000 * gain) + 3 * 0) (omega arith))
