-- The cash that a financing set nets is at most what its trades are to receive: each trade settles on one day. Assumes nothing.
use Prim.Native.Nat.{ℕ, zero, suc, ◌+◌, ◌≤◌}
use mathlib.Core.Path.{◌≡◌, refl}
use mathlib.Core.Bool.{Bool, true, false, cond, ◌&&◌}
use mathlib.Core.List.{List, [], ◌∷◌}
use native.Mathlib.Omega.{arith}
use native.Mathlib.Nat.{min-le_left}
use borrow.Author.Tests.{eqb-true, eqb-false}
use lib.Dec.{eqb}
use Rattle.rules.specs.Book.{FinancingTrade, total}
use Rattle.rules.specs.Weigh.{sum_below, on_day, netted_on, last_day, cash_netted}

-- ---- sums below a number

pub below_le : (n : ℕ) (f g : ℕ → ℕ) → ((d : ℕ) → f d ≤ g d) → sum_below n f ≤ sum_below n g
unfolding sum_below
below_le zero f g h = omega arith
below_le (suc n) f g h = omega (arith, h n, below_le n f g h)

below_none : (n : ℕ) → sum_below n (λ (d : ℕ). 0) ≤ 0
unfolding sum_below
below_none zero = omega arith
below_none (suc n) = omega (arith, below_none n)

below_add : (n : ℕ) (f g : ℕ → ℕ) → sum_below n (λ (d : ℕ). f d + g d) ≤ sum_below n f + sum_below n g
unfolding sum_below
below_add zero f g = omega arith
below_add (suc n) f g = omega (arith, below_add n f g)

-- ---- a day

module _ (f : FinancingTrade → ℕ) where
  -- on its day all of a trade counts at most, and on another nothing
  on_day_lem : (d : ℕ) (t : FinancingTrade) → on_day f d t ≤ f t
  on_day_lem d t = go (t.net_settled && eqb t.days d)
    where
      go : (b : Bool) → cond b (f t) 0 ≤ f t
      go true = omega arith
      go false = omega arith

  other_day : (d : ℕ) (t : FinancingTrade) → (t.days ≡ d → ⊥) → on_day f d t ≤ 0
  other_day d t h = go t.net_settled (eqb t.days d) refl
    where
      go : (a b : Bool) → eqb t.days d ≡ b → cond (a && b) (f t) 0 ≤ 0
      go false b e = omega arith
      go true false e = omega arith
      go true true e = absurd (h (eqb-true t.days d e))

  before_day : (n : ℕ) (t : FinancingTrade) → n ≤ t.days → sum_below n (λ (d : ℕ). on_day f d t) ≤ 0
  unfolding sum_below
  before_day zero t h = omega arith
  before_day (suc n) t h = omega (arith, other_day n t (λ e. omega arith), before_day n t (omega arith))

  -- over the days a trade counts at most once
  once : (n : ℕ) (t : FinancingTrade) → sum_below n (λ (d : ℕ). on_day f d t) ≤ f t
  unfolding sum_below
  once zero t = omega arith
  once (suc n) t = go (eqb t.days n) refl (once n t)
    where
      go : (b : Bool) → eqb t.days n ≡ b → sum_below n (λ (d : ℕ). on_day f d t) ≤ f t → on_day f n t + sum_below n (λ (d : ℕ). on_day f d t) ≤ f t
      go true e h = omega (arith, eqb-true t.days n e, on_day_lem n t, before_day n t (omega (arith, eqb-true t.days n e)))
      go false e h = omega (arith, other_day n t (eqb-false t.days n e))

  over_days : (n : ℕ) (ts : List FinancingTrade) → sum_below n (λ (d : ℕ). total (on_day f d) ts) ≤ total f ts
  over_days n [] = below_none n
  over_days n (t ∷ ts) = omega (arith, below_add n (λ (d : ℕ). on_day f d t) (λ (d : ℕ). total (on_day f d) ts), once n t, over_days n ts)

-- ---- the cash

pub netted_at_most : (ts : List FinancingTrade) → cash_netted ts ≤ total (λ (t : FinancingTrade). t.receivable) ts
unfolding cash_netted
netted_at_most ts =
    omega (arith, below_le (suc (last_day ts)) (netted_on ts) (λ (d : ℕ). total (on_day (λ (t : FinancingTrade). t.receivable) d) ts) (λ d. min-le_left _ _), over_days (λ (t : FinancingTrade). t.receivable) (suc (last_day ts)) ts)
