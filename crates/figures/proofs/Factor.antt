-- The factor of a trade, as the code looks it up and adds the floor, is that of document 01. Assumes nothing.
use mathlib.Core.Path.{◌≡◌, refl, sym, ◌∙◌}
use mathlib.Core.Bool.{Bool, true, false, cond, ◌&&◌, and-false}
use mathlib.Core.List.{List, []}
use Prim.Native.Nat.{ℕ, ◌+◌, ◌*◌, max, ◌≤◌, ◌<◌}
use native.Mathlib.Nat.{zero-add}
use native.Mathlib.Omega.{arith}
use borrow.Author.Tests.{lt-leb, eqb-true, ltb-true}
use lib.Dec.{eqb, leb, ltb}
use lib.ListN.{get_or}
use Rattle.rules.specs.declared.Bands.{Bands}
use Rattle.rules.specs.Factors.{band_of, credit_factor, factor_at, market_factor, trade_factor}
use Rattle.rules.proofs.Below.{all, agree, each, below}
use Rattle.laws.proofs.FactorBounds.{factor_at_most, credit_at_most}
use Rattle.figures.specs.Figures.{factor_figures}
use Rattle.figures.specs.Floor.{floor_of, figure_of, factor_by}

-- ---- the table of the code, by one computed test

abbrev looked : (qualifying : Bool) (band class : ℕ) → ℕ
looked qualifying band class = get_or (get_or factor_figures (class + 8 * cond qualifying 1 0) []) band 0

pub figure_at : (class : ℕ) (qualifying : Bool) (band : ℕ) → class < 8 → band < 3 → looked qualifying band class ≡ figure_of class qualifying band
unfolding figure_of all
figure_at class qualifying band h l =
    below (looked qualifying band) (λ class. figure_of class qualifying band) 8
    (each (λ band. agree (looked qualifying band) (λ class. figure_of class qualifying band) 8) 3 (tested qualifying) band l) class h
  where
    tested : (q : Bool) → all (λ band. agree (looked q band) (λ class. figure_of class q band) 8) 3 ≡ true
    tested true = refl
    tested false = refl

band_below_3 : (bands : Bands) (days : ℕ) → band_of bands days < 3
band_below_3 bands days = go (leb days bands.short) (leb days bands.medium)
  where
    go : (a b : Bool) → cond a 0 (cond b 1 2) < 3
    go true b = omega arith
    go false true = omega arith
    go false false = omega arith

-- what a lent table has at the row of a class and the column of the days
module _ (bands : Bands) (deciding : ℕ) where
  pub column_there : {column : ℕ} → column ≡ band_of bands deciding → column < 3
  column_there e = rw e (band_below_3 bands deciding)

  pub cell_is :
      (class : ℕ) (qualifying : Bool) {figures : List (List ℕ)} {one column cell : ℕ}
      → figures ≡ factor_figures → class < 8 → column ≡ band_of bands deciding → one ≡ cond qualifying 1 0
      → cell ≡ get_or (get_or figures (class + 8 * one) []) column 0 → cell ≡ figure_of class qualifying (band_of bands deciding)
  cell_is class qualifying f h b o e = e ∙ rw (f, b, o) (figure_at class qualifying (band_of bands deciding) h (band_below_3 bands deciding))

pub figure_at_most : (class : ℕ) (qualifying : Bool) (band : ℕ) → figure_of class qualifying band ≤ 150
unfolding figure_of
figure_at_most class qualifying band = go (eqb class 5)
  where
    go : (b : Bool) → cond b (credit_factor qualifying) (factor_at class band) ≤ 150
    go true = omega (arith, credit_at_most qualifying)
    go false = factor_at_most class band

-- ---- the factor of a market trade

-- with a reset: of rates, where the remaining days pass the one-year end, at least 5
with_floor : (class : ℕ) → class ≡ 0 → (first second : Bool) → max 5 (factor_at class (cond first 0 (cond second 1 2))) ≡ cond first 5 0 + factor_at class (cond first 0 (cond second 1 2))
with_floor class z true b = rw z
with_floor class z false true = rw z
with_floor class z false false = rw z

-- the days choose the band, and the floor is added to its figure
module _ (bands : Bands) (class days reset : ℕ) where
  pub market_sum : (resets : Bool) → let deciding = cond resets reset days in floor_of bands class days deciding + factor_at class (band_of bands deciding) ≡ market_factor bands class resets days reset
  unfolding market_factor floor_of
  market_sum false = go (ltb bands.short days) refl
    where
      go : (b : Bool) → ltb bands.short days ≡ b → cond (eqb class 0 && (b && leb days bands.short)) 5 0 + factor_at class (band_of bands days) ≡ factor_at class (band_of bands days)
      go true e = simp (lt-leb days bands.short (ltb-true bands.short days e), and-false (eqb class 0), zero-add)
      go false e = simp (and-false (eqb class 0), zero-add)
  market_sum true = go (eqb class 0) refl (ltb bands.short days)
    where
      go : (a : Bool) → eqb class 0 ≡ a → (b : Bool)
          → cond (a && (b && leb reset bands.short)) 5 0 + factor_at class (band_of bands reset)
          ≡ cond (a && b) (max 5 (factor_at class (band_of bands reset))) (factor_at class (band_of bands reset))
      go true e true = sym (with_floor class (eqb-true class 0 e) (leb reset bands.short) (leb reset bands.medium))
      go true e false = zero-add (factor_at class (band_of bands reset))
      go false e b = zero-add (factor_at class (band_of bands reset))

-- ---- the factor of a trade of any class

pub factor_is : (bands : Bands) (class : ℕ) (resets qualifying : Bool) (days reset : ℕ) → factor_by bands class qualifying days (cond resets reset days) ≡ trade_factor bands class resets qualifying days reset
unfolding factor_by figure_of trade_factor floor_of
factor_is bands class resets qualifying days reset = go (eqb class 5) refl
  where
    go : (b : Bool) → eqb class 5 ≡ b → floor_of bands class days (cond resets reset days) + cond b (credit_factor qualifying) (factor_at class (band_of bands (cond resets reset days)))
        ≡ cond b (credit_factor qualifying) (market_factor bands class resets days reset)
    go true e = rw (eqb-true class 5 e) (zero-add (credit_factor qualifying))
    go false e = market_sum bands class days reset resets
