-- How large an amount, a factor, a conversion figure and an add-on can be. Assumes nothing.
use Prim.Native.Nat.{ℕ, zero, suc, ◌-◌, ◌*◌, ◌^◌, ◌≤◌, ◌<◌, min, max}
use mathlib.Core.Bool.{Bool, true, false, cond, ◌&&◌}
use mathlib.Core.List.{List, [], ◌∷◌, map}
use native.Mathlib.Omega.{arith}
use native.Mathlib.Nat.{mul-le-mul, mul-le-mul_right, le_trans, min-le_left}
use lib.Dec.{eqb, leb, ltb}
use lib.ListN.{get_or}
use Rattle.rules.specs.declared.Bands.{Bands}
use Rattle.rules.specs.Word.{bit_of, size_of, gain_of, loss_of}
use Rattle.rules.specs.Factors.{factors, factor_at, band_of, credit_factor, market_factor, trade_factor, conversions, conversion_at, conversion_of}
use Rattle.rules.specs.Book.{Trade, Basket, WrittenCredit}
use Rattle.rules.specs.Weigh.{trade_add_on, nth_worst, last_qualifying, basket_add_on, written_add_on}

-- ---- amounts

pub gain_small : (w : ℕ) → gain_of w < 2 ^ 27
unfolding gain_of
gain_small w = go (bit_of 27 w)
  where
    go : (b : Bool) → cond b 0 (size_of w) < 2 ^ 27
    go true = omega arith
    go false = omega arith

pub loss_small : (w : ℕ) → loss_of w < 2 ^ 27
unfolding loss_of
loss_small w = go (bit_of 27 w)
  where
    go : (b : Bool) → cond b (size_of w) 0 < 2 ^ 27
    go true = omega arith
    go false = omega arith

-- ---- tables: no place of a table is above its largest figure

abbrev largest : List ℕ → ℕ
largest [] = 0
largest (x ∷ xs) = max x (largest xs)

place_at_most : (xs : List ℕ) (k : ℕ) → get_or xs k 0 ≤ largest xs
place_at_most [] k = omega arith
place_at_most (x ∷ xs) zero = omega arith
place_at_most (x ∷ xs) (suc k) = omega (arith, place_at_most xs k)

row_at_most : (rows : List (List ℕ)) (k : ℕ) → largest (get_or rows k []) ≤ largest (map largest rows)
row_at_most [] k = omega arith
row_at_most (r ∷ rows) zero = omega arith
row_at_most (r ∷ rows) (suc k) = omega (arith, row_at_most rows k)

pub factor_at_most : (class band : ℕ) → factor_at class band ≤ 150
factor_at_most class band = le_trans (place_at_most (get_or factors class []) band) (row_at_most factors class)

pub credit_at_most : (qualifying : Bool) → credit_factor qualifying ≤ 100
credit_at_most true = omega arith
credit_at_most false = omega arith

market_at_most : (bands : Bands) (class : ℕ) (resets : Bool) (days reset_days : ℕ) → market_factor bands class resets days reset_days ≤ 150
unfolding market_factor
market_at_most bands class resets days reset_days = go resets (eqb class 0 && ltb bands.short days)
  where
    go : (a b : Bool)
        → cond a (cond b (max 5 (factor_at class (band_of bands reset_days))) (factor_at class (band_of bands reset_days))) (factor_at class (band_of bands days)) ≤ 150
    go true true = omega (arith, factor_at_most class (band_of bands reset_days))
    go true false = factor_at_most class (band_of bands reset_days)
    go false b = factor_at_most class (band_of bands days)

pub factor_small : (bands : Bands) (class : ℕ) (resets qualifying : Bool) (days reset_days : ℕ) → trade_factor bands class resets qualifying days reset_days ≤ 150
unfolding trade_factor
factor_small bands class resets qualifying days reset_days = go (eqb class 5)
  where
    go : (b : Bool) → cond b (credit_factor qualifying) (market_factor bands class resets days reset_days) ≤ 150
    go true = omega (arith, credit_at_most qualifying)
    go false = market_at_most bands class resets days reset_days

pub conversion_at_most : (class committed : ℕ) → conversion_of class committed ≤ 1000
unfolding conversion_of
conversion_at_most class committed = go (eqb committed 0)
  where
    go : (b : Bool) → cond b (conversion_at class) (min (conversion_at class) (conversion_at (committed - 1))) ≤ 1000
    go true = place_at_most conversions class
    go false = le_trans (min-le_left _ _) (place_at_most conversions class)

-- ---- add-ons

product : (factor payments notional : ℕ) → factor ≤ 150 → payments < 2 ^ 8 → notional < 2 ^ 27 → factor * payments * notional ≤ 38250 * 2 ^ 27
product factor payments notional f p n =
    let a : factor * payments ≤ 38250 = mul-le-mul {n₁ = factor} {m₁ = payments} {n₂ = 150} {m₂ = 255} f (omega arith) in
    mul-le-mul {n₁ = factor * payments} {m₁ = notional} {n₂ = 38250} {m₂ = 2 ^ 27} a (omega arith)

-- 38,250 is 150 times 255
pub trade_add_on_lem : (bands : Bands) (t : Trade) → t.payments < 2 ^ 8 → t.notional < 2 ^ 27 → trade_add_on bands t ≤ 38250 * 2 ^ 27
unfolding trade_add_on
trade_add_on_lem bands t p n =
    product _ t.payments t.notional (factor_small bands t.class t.resets t.qualifying t.days t.reset_days) p n

pub credit_product : (factor notional : ℕ) → factor ≤ 100 → notional < 2 ^ 27 → factor * notional ≤ 100 * 2 ^ 27
credit_product factor notional f n = mul-le-mul {n₁ = factor} {m₁ = notional} {n₂ = 100} {m₂ = 2 ^ 27} f (omega arith)

pub basket_add_on_lem : (b : Basket) → basket_add_on b ≤ 100 * b.notional
unfolding basket_add_on
basket_add_on_lem b = mul-le-mul_right b.notional (credit_at_most (leb (nth_worst b.nth b.grades) last_qualifying))

pub written_add_on_lem : (w : WrittenCredit) → written_add_on w ≤ 100 * w.notional
unfolding written_add_on
written_add_on_lem w = go w.total_return w.close_out
  where
    whole : credit_factor w.qualifying * w.notional ≤ 100 * w.notional
    whole = mul-le-mul_right w.notional (credit_at_most w.qualifying)

    go : (a b : Bool) → cond a (credit_factor w.qualifying * w.notional) (cond b (min (credit_factor w.qualifying * w.notional) (1000 * w.premiums)) 0) ≤ 100 * w.notional
    go true b = whole
    go false true = le_trans (min-le_left _ _) whole
    go false false = omega arith
