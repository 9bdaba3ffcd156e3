-- Document 01, "Rows": row 22 and the verdict. Assumes nothing.
use Rattle.std.specs.Prelude.{ℕ, ◌/◌, cond, ℤ, pos, negsuc, nat_abs, ◌*ℤ◌}
use Rattle.std.proofs.Math.IntN.{sub_ℕ}
use Rattle.std.specs.Int.Signed.{le_z}

-- row 20: Tier 1, a gain less a loss, in thousandths
abbrev pub tier1_of : (gain loss : ℕ) → ℤ
tier1_of gain loss = pos 1000 *ℤ sub_ℕ gain loss

-- z / d rounded towards minus infinity: -(a + 1) / d is -(a / d + 1)
abbrev pub floor : ℤ → ℕ → ℤ
floor (pos a) d = pos (a / d)
floor (negsuc a) d = negsuc (a / d)

-- "basis points, 10,000 times row 20 over row 21 rounded towards minus infinity; 0 if row 21 is 0". Row 21 is never negative
-- (laws, `exposure_is_sum`), so that a negative one counts as none.
unfoldable pub ratio_of : (tier1 exposure : ℤ) → ℤ
ratio_of tier1 exposure = cond (le_z exposure (pos 0)) (pos 0) (floor (pos 10000 *ℤ tier1) (nat_abs exposure))

-- "Verdict 2 if row 21 is 0; 0 if 100 times row 20 is at least 3 times row 21; otherwise 1"
unfoldable pub verdict_of : (tier1 exposure : ℤ) → ℕ
verdict_of tier1 exposure = cond (le_z exposure (pos 0)) 2 (cond (le_z (pos 3 *ℤ exposure) (pos 100 *ℤ tier1)) 0 1)
