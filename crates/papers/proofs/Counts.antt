-- Where no verdict is worse, no fewer settings are counted. Assumes nothing.
use Prim.Native.Nat.{ℕ, zero, suc, ◌+◌, ◌≤◌}
use mathlib.Core.Path.{◌≡◌, refl}
use mathlib.Core.Logic.{◌⊎◌, inl, inr}
use mathlib.Core.Bool.{cond}
use native.Mathlib.Omega.{arith}
use native.Mathlib.Decide.{ℕ_discrete}
use borrow.Author.Tests.{ne_eqb}
use lib.Dec.{eqb}
use Rattle.rules.specs.Weigh.{sum_below}
use Rattle.other_marks.specs.Marked.{settings}
use Rattle.settings.specs.Settings.{leading, how_many, counts_of}
use Rattle.papers.specs.MoreMarks.{NoFewer}
use Rattle.papers.proofs.Verdicts.{NotWorse}

-- what one setting counts for a verdict
abbrev one : (v verdict : ℕ) → ℕ
one v verdict = cond (eqb v verdict) 1 0

-- of one setting
one_more : (v w : ℕ) → NotWorse v w → (one v 0 + one v 2 ≤ one w 0 + one w 2) × (one v 2 ≤ one w 2)
one_more v w n = go (ℕ_discrete v 0) (ℕ_discrete v 2)
  where
    met : (w ≡ 0) ⊎ (w ≡ 2) → (1 ≤ one w 0 + one w 2) × (0 ≤ one w 2)
    met (inl e) = rw e (omega arith, omega arith)
    met (inr e) = rw e (omega arith, omega arith)

    go : Dec (v ≡ 0) → Dec (v ≡ 2) → (one v 0 + one v 2 ≤ one w 0 + one w 2) × (one v 2 ≤ one w 2)
    go (yes p) q = rw p (met (n.met p))
    go (no p) (yes q) = rw (q, n.none q) (omega arith, omega arith)
    go (no p) (no q) = rw (ne_eqb v 0 p, ne_eqb v 2 q) (omega arith, omega arith)

module _ (v w : ℕ → ℕ) (h : (m : ℕ) → NotWorse (v m) (w m)) where
  leading_more : (n : ℕ) → (leading v 0 n + leading v 2 n ≤ leading w 0 n + leading w 2 n) × (leading v 2 n ≤ leading w 2 n)
  unfolding sum_below
  leading_more zero = (omega arith, omega arith)
  leading_more (suc n) =
      let o = one_more (v n) (w n) (h n) in
      let r = leading_more n in
      (omega (arith, o.0, r.0), omega (arith, o.1, r.1))

  pub counts_more : NoFewer (counts_of v) (counts_of w)
  unfolding how_many
  counts_more = let r = leading_more settings in record { number = refl; place = refl; good = omega (arith, r.0); empty = omega (arith, r.1) }
