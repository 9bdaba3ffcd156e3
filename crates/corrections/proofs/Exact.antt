-- What an asset's carrying amount and an off-balance notional add to the exposure of their item, exactly; and the ceilings that follow. Assumes
-- nothing.
use Prim.Native.Nat.{ℕ, ◌+◌, ◌-◌, ◌*◌, ◌≤◌}
use mathlib.Core.Path.{◌≡◌, ap}
use mathlib.Core.Bool.{Bool, true, false, cond}
use native.Mathlib.Omega.{arith}
use native.Mathlib.Decide.{dec_le}
use native.Mathlib.Nat.{mul-le-mul_right}
use Rattle.rules.specs.declared.Bands.{Bands}
use Rattle.rules.specs.Book.{Asset, OffBalance, asset, off_balance}
use Rattle.rules.specs.Rows.{asset_rows}
use Rattle.laws.specs.Exposure.{exposure_of}
use Rattle.laws.proofs.FactorBounds.{conversion_at_most}
use Rattle.corrections.specs.Roles.{Role, carrying, off_balance_notional}
use Rattle.corrections.specs.Claims.{Ceiling}
use Rattle.corrections.specs.Effects.{Effect}
use Rattle.corrections.proofs.Apart.{gap}

-- from a least amount on each unit adds so much to f, exactly
pub record Exactly (f : ℕ → ℕ) (figure least : ℕ) : Type 0 where
  pub adds : (m d : ℕ) → least ≤ m → f (m + d) ≡ f m + figure * d

module _ {f : ℕ → ℕ} {figure least : ℕ} (exact : Exactly f figure least) (m n : ℕ) (h : least ≤ m) (k : least ≤ n) where
  -- so it moves in proportion, up or down,
  in_proportion : gap (f m) (f n) ≡ figure * gap m n
  in_proportion = go (dec_le m n)
    where
      go : Dec (m ≤ n) → gap (f m) (f n) ≡ figure * gap m n
      go (yes l) = let e : m + gap m n ≡ n = omega arith in omega (arith, exact.adds m (gap m n) h, ap f e)
      go (no l) = let e : n + gap m n ≡ m = omega arith in omega (arith, exact.adds n (gap m n) k, ap f e)

  -- and within each ceiling that is no less
  pub exact_ceiling : {ceiling : ℕ} → figure ≤ ceiling → gap (f m) (f n) ≤ ceiling * gap m n
  exact_ceiling l = rw in_proportion (mul-le-mul_right (gap m n) l)

-- a ceiling that is no less than an exact effect
pub record EffectWithin (role : Role) (ceiling : ℕ) : Type 0 where
  pub figure : ℕ
  pub effect : Effect role figure
  pub within : figure ≤ ceiling

-- ---- the carrying amount of an asset

-- the same asset, carried at c
abbrev pub carried_at : ℕ → Asset → Asset
carried_at c a = record { fiduciary = a.fiduciary; carrying = c; provision = a.provision; deducted = a.deducted }

-- EXACTLY, where provision and deduction are within the smaller amount
pub carrying_exact : (bands : Bands) (a : Asset) {figure : ℕ} → Effect (carrying a.fiduciary) figure
    → Exactly (λ c. exposure_of bands (asset (carried_at c a))) figure (a.provision + a.deducted)
unfolding asset_rows
carrying_exact bands a x = record { adds = λ c d h. go a.fiduciary x c d h }
  where
    go : (f : Bool) {figure : ℕ} → Effect (carrying f) figure → (c d : ℕ) → a.provision + a.deducted ≤ c
        → 1000 * (cond f a.deducted (c + d - a.provision) - a.deducted) ≡ 1000 * (cond f a.deducted (c - a.provision) - a.deducted) + figure * d
    go true Effect.of_fiduciary c d h = omega arith
    go false Effect.of_carrying c d h = omega arith

pub carrying_within : (fiduciary : Bool) {ceiling : ℕ} → Ceiling (carrying fiduciary) ceiling → EffectWithin (carrying fiduciary) ceiling
carrying_within true Ceiling.of_carrying = record { figure = _; effect = Effect.of_fiduciary; within = omega arith }
carrying_within false Ceiling.of_carrying = record { figure = _; effect = Effect.of_carrying; within = omega arith }

-- ---- the notional of an off-balance item

-- the same item, of notional n
abbrev pub of_notional : ℕ → OffBalance → OffBalance
of_notional n o = record { class = o.class; committed = o.committed; notional = n }

-- EXACTLY, by the conversion figure
pub notional_exact : (bands : Bands) (o : OffBalance) {figure : ℕ} → Effect (off_balance_notional o.class o.committed) figure
    → Exactly (λ n. exposure_of bands (off_balance (of_notional n o))) figure 0
notional_exact bands o Effect.for_off_balance = record { adds = λ n d h. omega arith }

pub notional_within : (class committed : ℕ) {ceiling : ℕ} → Ceiling (off_balance_notional class committed) ceiling
    → EffectWithin (off_balance_notional class committed) ceiling
notional_within class committed Ceiling.for_off_balance = record { figure = _; effect = Effect.for_off_balance; within = conversion_at_most class committed }
