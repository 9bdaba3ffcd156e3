-- The weighted add-on of X at a gross G and a net N from what the code computes: at the two ends of netting, and from a share between
-- them. Assumes nothing.
use mathlib.Core.Path.{◌≡◌, ap, sym, ◌∙◌}
use Prim.Native.Nat.{ℕ, ◌+◌, ◌*◌, ◌/◌, ◌%◌, ◌≤◌, ◌<◌, min}
use native.Mathlib.Omega.{arith}
use Rattle.rules.specs.Weighted.{ceil, parts, weighted_of}
use Rattle.rules.proofs.Weighted.{weighted_some, no_netting, all_netted, at_most}

module _ (x g n : ℕ) where
  pub at_whole : (r : ℕ) → n ≡ g → r ≡ x → r ≡ weighted_of x g n
  at_whole r e h = h ∙ sym (ap (weighted_of x g) e ∙ no_netting x g)

  pub at_two_fifths : (r : ℕ) → n ≡ 0 → 0 < g → r ≡ ceil (2 * x) 5 → r ≡ weighted_of x g n
  at_two_fifths r e p h = h ∙ sym (ap (weighted_of x g) e ∙ all_netted x g p)

-- Q and R are the quotient and the remainder of the share of X
pub record FromShare (x g n Q R : ℕ) : Type 0 where
  pub value : Q + min 1 R ≡ weighted_of x g n
  pub within : Q + min 1 R ≤ x

pub from_share : (x g n Q R : ℕ) → 0 < g → n ≤ g → Q ≡ x * parts g n / (5 * g) → R ≡ x * parts g n % (5 * g) → FromShare x g n Q R
from_share x g n Q R p h eQ eR =
    let value : Q + min 1 R ≡ weighted_of x g n = omega (arith, weighted_some x g n (λ z. omega arith)) in
    record { value = value; within = omega (arith, at_most x g n h) }
