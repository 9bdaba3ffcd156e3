-- Laws of the weighted add-on of X at a gross G and a net N (document 01, "Weighing a set"). Assumes nothing.
use mathlib.Core.Path.{◌≡◌, refl, ◌∙◌}
use mathlib.Core.Bool.{Bool, true, false, cond}
use Prim.Native.Nat.{ℕ, ◌+◌, ◌*◌, ◌≤◌, ◌<◌}
use native.Mathlib.Nat.{le_antisymm, mul-le-mul_left, mul-le-mul_right, le_of_mul-le-mul_left}
use native.Mathlib.Omega.{arith}
use borrow.Author.Tests.{eqb-true, eqb-false}
use lib.Dec.{eqb}
use Rattle.rules.specs.Weighted.{ceil, parts, weighted_of}
use Rattle.rules.proofs.Ceil.{ceil_enough, ceil_least, ceil_mono}

-- ---- by the gross: "X if G is 0"

-- what holds of every X itself where G is 0, and of what is rounded up where it is not, holds of the weighted add-ons
module _ (g n : ℕ) where
  pub by_gross : (P : (ℕ → ℕ) → Type 0) → (g ≡ 0 → P (λ x. x)) → (0 < g → P (λ x. ceil (x * parts g n) (5 * g))) → P (λ x. weighted_of x g n)
  unfolding weighted_of
  by_gross P none some = go (eqb g 0) refl
    where
      go : (b : Bool) → eqb g 0 ≡ b → P (λ x. cond b x (ceil (x * parts g n) (5 * g)))
      go true e = none (eqb-true g 0 e)
      go false e = let h : g ≡ 0 → ⊥ = eqb-false g 0 e in some (omega arith)

pub weighted_none : (x g n : ℕ) → g ≡ 0 → weighted_of x g n ≡ x
weighted_none x g n e = by_gross g n (λ (w : ℕ → ℕ). w x ≡ x) (λ z. refl) (λ h. absurd (omega arith))

pub weighted_some : (x g n : ℕ) → (g ≡ 0 → ⊥) → weighted_of x g n ≡ ceil (x * parts g n) (5 * g)
weighted_some x g n h = by_gross g n (λ (w : ℕ → ℕ). w x ≡ ceil (x * parts g n) (5 * g)) (λ z. absurd (h z)) (λ p. refl)

-- ---- its bounds: "at least twice and at most five times the gross"

pub two_fifths : (x g n : ℕ) → 2 * x ≤ 5 * weighted_of x g n
two_fifths x g n = by_gross g n (λ (w : ℕ → ℕ). 2 * x ≤ 5 * w x) (λ z. omega arith)
    (λ h. le_of_mul-le-mul_left (omega (arith, ceil_enough (x * parts g n) (5 * g) (omega arith))) h)

pub at_most : (x g n : ℕ) → n ≤ g → weighted_of x g n ≤ x
at_most x g n h = by_gross g n (λ (w : ℕ → ℕ). w x ≤ x) (λ z. omega arith)
    (λ p. ceil_least _ _ x (omega arith) (mul-le-mul_left x (omega arith)))

pub five_at_most : (x g n : ℕ) → n ≤ g → 5 * weighted_of x g n ≤ 5 * x
five_at_most x g n h = omega (arith, at_most x g n h)

-- ---- a larger X, or a larger net, has no smaller one

pub mono_x : (x x' g n : ℕ) → x ≤ x' → weighted_of x g n ≤ weighted_of x' g n
mono_x x x' g n h = by_gross g n (λ (w : ℕ → ℕ). w x ≤ w x') (λ z. h) (λ p. ceil_mono _ _ _ (omega arith) (mul-le-mul_right _ h))

pub mono_net : (x g n n' : ℕ) → n ≤ n' → weighted_of x g n ≤ weighted_of x g n'
mono_net x g n n' h = by_gross g n (λ (w : ℕ → ℕ). w x ≤ weighted_of x g n')
    (λ z. omega (arith, weighted_none x g n' z))
    (λ p. rw (weighted_some x g n' (λ z. omega arith)) (ceil_mono _ _ _ (omega arith) (mul-le-mul_left x (omega arith))))

-- and it grows by no more than X grows
pub grows_less : (x y g n : ℕ) → n ≤ g → weighted_of (x + y) g n ≤ weighted_of x g n + y
grows_less x y g n h = by_gross g n (λ (w : ℕ → ℕ). w (x + y) ≤ w x + y) (λ z. omega arith)
    (λ p. let kept : parts g n ≤ 5 * g = omega arith in ceil_least _ _ _ (omega arith) (omega (arith, ceil_enough (x * parts g n) (5 * g) (omega arith), mul-le-mul_left y kept)))

-- ---- the two ends of netting

-- nothing netted: X itself
pub no_netting : (x g : ℕ) → weighted_of x g g ≡ x
no_netting x g = le_antisymm (at_most x g g (omega arith)) (by_gross g g (λ (w : ℕ → ℕ). x ≤ w x) (λ z. omega arith)
    (λ h. le_of_mul-le-mul_left (omega (arith, ceil_enough (x * parts g g) (5 * g) (omega arith))) h))

-- all netted: two fifths of X, rounded up
pub all_netted : (x g : ℕ) → 0 < g → weighted_of x g 0 ≡ ceil (2 * x) 5
all_netted x g h =
    weighted_some x g 0 (λ z. omega arith)
    ∙ le_antisymm
    (ceil_least _ _ _ (omega arith) (omega (arith, mul-le-mul_right g (ceil_enough (2 * x) 5 (omega arith)))))
    (ceil_least _ _ _ (omega arith) (le_of_mul-le-mul_left (omega (arith, ceil_enough (x * parts g 0) (5 * g) (omega arith))) h))
