-- Every row of an accepted book fits a signed number of 64 bits. Assumes nothing.
use Prim.Native.Nat.{ℕ, zero, suc, ◌+◌, ◌*◌, ◌^◌, ◌≤◌, ◌<◌}
use mathlib.Core.List.{List, ◌∷◌}
use native.Mathlib.Omega.{arith}
use lib.IntN.{ℤ, pos, nat_abs, ◌+ℤ◌}
use lib.ListN.{get_or}
use lib.Signed.{mag}
use Rattle.rules.specs.declared.Bands.{Bands}
use Rattle.rules.specs.declared.Entry.{Entry}
use Rattle.rules.specs.declared.Sums.{Sums}
use Rattle.rules.specs.Word.{word}
use Rattle.rules.specs.Book.{Placed}
use Rattle.rules.specs.Read.{head_of}
use Rattle.rules.specs.Ratio.{tier1_of, ratio_of}
use Rattle.rules.specs.Rows.{minus, sum_over, sums_of, on_balance, of_derivative_rows, of_financing_rows, of_off_balance_rows, exposure_row, rows_of}
use Rattle.rules.proofs.Lists.{Every, total_le_all}
use Rattle.laws.specs.Exposure.{exposure_of}
use Rattle.theorems.specs.Claims.{AllRowsFit}
use Rattle.laws.proofs.GoodHead.{good_head}
use Rattle.laws.proofs.Accepted.{Accepted, accepted_is}
use Rattle.laws.proofs.FactorBounds.{gain_small, loss_small}
use Rattle.laws.proofs.ItemBounds.{item_weight, items_small}
use Rattle.laws.proofs.ItemRows.{all_rows, rows_at_most, exposure_at_most, sums_total}
use Rattle.theorems.proofs.Signed.{mag_at_most, minus_at_most, sum_at_most, tier1_at_most, ratio_at_most}

-- ---- a signed number of at most some size

record Within (most : ℕ) (z : ℤ) : Type 0 where
  size : nat_abs z ≤ most

plain : (n : ℕ) → Within n (pos n)
plain n = record { size = omega arith }

taken : (n : ℕ) → Within n (minus n)
taken n = record { size = minus_at_most n }

plus : {a b : ℕ} {x y : ℤ} → Within a x → Within b y → Within (a + b) (x +ℤ y)
plus {x} {y} h k = record { size = omega (arith, sum_at_most x y, h.size, k.size) }

-- ---- the rows that are sums, each by its parts

module _ (s : Sums) where
  on_balance_lem : Within (s.assets + s.deducted) (on_balance s)
  on_balance_lem = plus (plain s.assets) (taken s.deducted)

  for_derivatives : Within (s.replacement + s.weighted + s.posted + s.offset + s.exempt + s.written + s.covered) (of_derivative_rows s)
  for_derivatives =
      plus (plus (plus (plus (plus (plus (plain s.replacement) (plain s.weighted)) (plain s.posted)) (taken s.offset)) (taken s.exempt)) (plain s.written)) (taken s.covered)

  for_financing : Within (s.financed + s.netted + s.principal + s.agent) (of_financing_rows s)
  for_financing = plus (plus (plus (plain s.financed) (taken s.netted)) (plain s.principal)) (plain s.agent)

  for_off_balance : Within (s.committed + s.unconverted) (of_off_balance_rows s)
  for_off_balance = plus (plain s.committed) (taken s.unconverted)

  exposure : Within (s.assets + s.deducted + (s.replacement + s.weighted + s.posted + s.offset + s.exempt + s.written + s.covered)
      + (s.financed + s.netted + s.principal + s.agent) + (s.committed + s.unconverted)) (exposure_row s)
  exposure = plus (plus (plus on_balance_lem for_derivatives) for_financing) for_off_balance

-- ---- all rows

Fits : ℤ → Type 0
Fits z = mag z < 2 ^ 63

fits : {most : ℕ} {z : ℤ} {zs : List ℤ} → Within most z → most < 2 ^ 63 → Every Fits zs → Every Fits (z ∷ zs)
unfolding Fits
fits {z} h l t = Every.more {x = z} (omega (arith, mag_at_most z, h.size)) t

module _ (s : Sums) (gain loss : ℕ) (g : gain < 2 ^ 27) (l : loss < 2 ^ 27)
    (h : s.assets + s.deducted + (s.replacement + s.weighted + s.posted + s.offset + s.exempt + s.written + s.covered)
    + (s.financed + s.netted + s.principal + s.agent) + (s.committed + s.unconverted) < 2 ^ 63) where
  tier1 : Within (2 ^ 38) (tier1_of gain loss)
  tier1 = record { size = omega (arith, tier1_at_most gain loss) }

  ratio : Within (10000 * 2 ^ 38) (ratio_of (tier1_of gain loss) (exposure_row s))
  ratio = record { size = omega (arith, ratio_at_most (tier1_of gain loss) (exposure_row s), tier1.size) }

  every_row : Every Fits (rows_of s gain loss)
  unfolding rows_of
  every_row =
      fits (plain s.assets) (omega arith)
      (fits (taken s.deducted) (omega arith)
      (fits (on_balance_lem s) (omega arith)
      (fits (plain s.replacement) (omega arith)
      (fits (plain s.weighted) (omega arith)
      (fits (plain s.posted) (omega arith)
      (fits (taken s.offset) (omega arith)
      (fits (taken s.exempt) (omega arith)
      (fits (plain s.written) (omega arith)
      (fits (taken s.covered) (omega arith)
      (fits (for_derivatives s) (omega arith)
      (fits (plain s.financed) (omega arith)
      (fits (taken s.netted) (omega arith)
      (fits (plain s.principal) (omega arith)
      (fits (plain s.agent) (omega arith)
      (fits (for_financing s) (omega arith)
      (fits (plain s.committed) (omega arith)
      (fits (taken s.unconverted) (omega arith)
      (fits (for_off_balance s) (omega arith)
      (fits tier1 (omega arith)
      (fits (exposure s) h
      (fits ratio (omega arith)
      Every.none)))))))))))))))))))))

-- at each place of the list, and behind it 0
place_fits : {zs : List ℤ} → Every Fits zs → (k : ℕ) → mag (get_or zs k (pos 0)) < 2 ^ 63
unfolding Fits
place_fits Every.none k = omega arith
place_fits (Every.more h t) zero = h
place_fits (Every.more h t) (suc k) = place_fits t k

-- ---- an accepted book

module _ (ws : List ℕ) (rows entries : ℕ) (items : List Placed) (left : List Entry) (a : Accepted ws rows entries items left) (bands : Bands) where
  weight_small : sum_over (item_weight bands) items ≤ 2 ^ 61
  weight_small = omega (arith, rw a.reading.read at (items_small bands ws (good_head ws a.reading.head).long), a.reading.short)

  rows_small : sum_over (all_rows bands) items ≤ 2 ^ 61
  rows_small = omega (arith, weight_small, total_le_all (λ (p : Placed). all_rows bands p.item) (λ (p : Placed). item_weight bands p.item) (λ p. rows_at_most bands p.item) items)

  exposure_small : sum_over (exposure_of bands) items ≤ 2 ^ 61
  exposure_small = omega (arith, weight_small, total_le_all (λ (p : Placed). exposure_of bands p.item) (λ (p : Placed). item_weight bands p.item) (λ p. exposure_at_most bands p.item) items)

pub all_rows_fit : AllRowsFit
unfolding head_of sums_of
all_rows_fit ws rows entries items left e =
    let a = accepted_is ws rows entries items left e in
    let bands = (head_of ws).bands in
    record {
      each = place_fits (every_row (sums_of bands items) (head_of ws).gain (head_of ws).loss (gain_small (word ws 1)) (loss_small (word ws 1))
          (omega (arith, rows_small ws rows entries items left a bands, sums_total bands items)));
      threefold = omega (arith, exposure_small ws rows entries items left a bands);
    }
