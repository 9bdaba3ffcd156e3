-- Laws of the ratio and the verdict as the exposure falls, over ℤ (document 01, "Rows"). Assumes nothing.
use mathlib.Core.Path.{◌≡◌, refl}
use mathlib.Core.Bool.{Bool, true, false, cond}
use mathlib.Core.Logic.{◌⊎◌, inl, inr}
use Prim.Native.Nat.{ℕ, ◌*◌, ◌/◌, ◌≤◌, ◌<◌}
use native.Mathlib.Nat.{le-div_iff_mul-le, mul-le-mul_left, div-mul-le_self}
use native.Mathlib.Omega.{arith}
use borrow.Author.Tests.{lt-leb}
use lib.Dec.{T, leb→le, le→leb, ltb→lt}
use lib.IntN.{ℤ, pos, negsuc, ◌*ℤ◌}
use lib.Signed.{le_z, ◌≤ℤ◌, ◌<ℤ◌, le_z_yes}
use Rattle.rules.specs.Ratio.{ratio_of, verdict_of}
use Rattle.rules.proofs.Differences.{of_any, times, in_order, ordered}

-- ---- a capital that is not below 0 has no larger ratio to a larger exposure

quotient_falls : (a d e : ℕ) → 0 < e → e ≤ d → a / d ≤ a / e
quotient_falls a d e p h = (le-div_iff_mul-le p).1 (omega (arith, mul-le-mul_left (a / d) h, div-mul-le_self a d))

pub ratio_falls : (t d e : ℤ) → pos 0 ≤ℤ t → pos 0 <ℤ e → e ≤ℤ d → ratio_of t d ≤ℤ ratio_of t e
unfolding ratio_of
ratio_falls (pos t) (pos d) (pos e) p q r =
    let some : 0 < e = ltb→lt 0 e q.lt in
    let less : e ≤ d = leb→le e d r.le in
    simp (lt-leb d 0 (omega arith), lt-leb e 0 some) (le_z_yes (le→leb _ _ (quotient_falls (10000 * t) d e some less)))
ratio_falls (pos t) (negsuc d) (pos e) p q r = absurd r.le
ratio_falls (pos t) d (negsuc e) p q r = absurd q.lt
ratio_falls (negsuc t) d e p q r = absurd p.le

-- ---- what passes at an exposure passes at a smaller one, or there is none there

-- the verdict by its two tests: whether there is no exposure, and whether the capital is enough
abbrev verdict_by : (none met : Bool) → ℕ
verdict_by none met = cond none 2 (cond met 0 1)

met_at_0 : (none met : Bool) → verdict_by none met ≡ 0 → T met
met_at_0 true met e = absurd (omega arith)
met_at_0 false true e = tt
met_at_0 false false e = absurd (omega arith)

met_or_none : (none met : Bool) → T met → (verdict_by none met ≡ 0) ⊎ (verdict_by none met ≡ 2)
met_or_none true met h = inr refl
met_or_none false true h = inl refl
met_or_none false false h = absurd h

pub verdict_kept : (t d e : ℤ) → verdict_of t d ≡ 0 → e ≤ℤ d → (verdict_of t e ≡ 0) ⊎ (verdict_of t e ≡ 2)
unfolding verdict_of
verdict_kept t d e v r = met_or_none (le_z e (pos 0)) (le_z (pos 3 *ℤ e) (pos 100 *ℤ t)) enough.le
  where
    enough : (pos 3 *ℤ e) ≤ℤ (pos 100 *ℤ t)
    enough =
        let capital = times 100 (of_any t).2 in
        let before = in_order (times 3 (of_any d).2) capital (le_z_yes (met_at_0 (le_z d (pos 0)) (le_z (pos 3 *ℤ d) (pos 100 *ℤ t)) v)) in
        ordered (times 3 (of_any e).2) capital (omega (arith, before, in_order (of_any e).2 (of_any d).2 r))
