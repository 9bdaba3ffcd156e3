-- Laws of what stays in of a written credit's add-on, by the amount covered and the notional (request A.6). Assumes nothing.
use Prim.Native.Nat.{ℕ, ◌+◌, ◌-◌, ◌*◌, ◌≤◌, ◌<◌}
use mathlib.Core.Path.{◌≡◌, refl}
use mathlib.Core.Bool.{Bool, true, false, cond}
use native.Mathlib.Omega.{arith}
use native.Mathlib.Nat.{mul-add, mul-le-mul_left, mul-le-mul_right, le_of_mul-le-mul_right}
use borrow.Author.Tests.{eqb-true, eqb-false}
use lib.Dec.{eqb}
use Rattle.rules.specs.Weighted.{ceil}
use Rattle.rules.specs.Weigh.{kept_in}
use Rattle.rules.proofs.Ceil.{ceil_enough, ceil_least, ceil_mono, ceil_plus}

module _ (add_on notional : ℕ) where
  -- what holds of nothing where the notional is 0, and of what is rounded up where it is not, holds of what stays in
  by_notional : (P : (ℕ → ℕ) → Type 0) → (notional ≡ 0 → P (λ covered. 0)) → (0 < notional → P (λ covered. ceil (add_on * covered) notional))
      → P (λ covered. kept_in add_on covered notional)
  unfolding kept_in
  by_notional P none some = go (eqb notional 0) refl
    where
      go : (b : Bool) → eqb notional 0 ≡ b → P (λ covered. cond b 0 (ceil (add_on * covered) notional))
      go true e = none (eqb-true notional 0 e)
      go false e = let h : notional ≡ 0 → ⊥ = eqb-false notional 0 e in some (omega arith)

  pub kept_some : (covered : ℕ) → 0 < notional → kept_in add_on covered notional ≡ ceil (add_on * covered) notional
  kept_some covered h = by_notional (λ (k : ℕ → ℕ). k covered ≡ ceil (add_on * covered) notional) (λ z. absurd (omega arith)) (λ p. refl)

  -- ---- with more cover

  -- no less stays in
  pub kept_mono : (covered more : ℕ) → covered ≤ more → kept_in add_on covered notional ≤ kept_in add_on more notional
  kept_mono covered more h = by_notional (λ (k : ℕ → ℕ). k covered ≤ k more) (λ z. omega arith) (λ p. ceil_mono _ _ _ p (mul-le-mul_left add_on h))

  -- an add-on of at most so much for each unit of notional keeps at most so much for each unit covered, and so nothing without cover
  pub kept_rate : (rate covered : ℕ) → add_on ≤ rate * notional → kept_in add_on covered notional ≤ rate * covered
  kept_rate rate covered h = by_notional (λ (k : ℕ → ℕ). k covered ≤ rate * covered) (λ z. omega arith)
      (λ p. ceil_least _ _ _ p (omega (arith, mul-le-mul_right covered h)))

  kept_plus : (covered more : ℕ) → kept_in add_on (covered + more) notional ≤ kept_in add_on covered notional + kept_in add_on more notional
  kept_plus covered more = by_notional (λ (k : ℕ → ℕ). k (covered + more) ≤ k covered + k more) (λ z. omega arith)
      (λ p. rw mul-add (ceil_plus (add_on * covered) (add_on * more) notional p))

  -- so further cover keeps at most so much more for each unit of it
  pub kept_grows : (rate covered more : ℕ) → add_on ≤ rate * notional → covered ≤ more → kept_in add_on more notional ≤ kept_in add_on covered notional + rate * (more - covered)
  kept_grows rate covered more h l =
      let e : covered + (more - covered) ≡ more = omega arith in
      let p = kept_plus covered (more - covered) in
      omega (arith, rw e at p, kept_rate rate (more - covered) h)

  -- ---- its bounds

  -- within the notional, no more than the whole
  pub kept_within : (covered : ℕ) → covered ≤ notional → kept_in add_on covered notional ≤ add_on
  kept_within covered h = by_notional (λ (k : ℕ → ℕ). k covered ≤ add_on) (λ z. omega arith) (λ p. ceil_least _ _ add_on p (mul-le-mul_left add_on h))

  -- from the notional on, no less
  pub kept_beyond : (rate covered : ℕ) → add_on ≤ rate * notional → notional ≤ covered → add_on ≤ kept_in add_on covered notional
  kept_beyond rate covered h l = by_notional (λ (k : ℕ → ℕ). add_on ≤ k covered) (λ z. omega (arith, rw z at h))
      (λ p. le_of_mul-le-mul_right (omega (arith, ceil_enough (add_on * covered) notional p, mul-le-mul_left add_on l)) p)
