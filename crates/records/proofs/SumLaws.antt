-- Sums are added. Assumes nothing.
use Prim.Native.Nat.{ℕ, ◌+◌, ◌*◌}
use mathlib.Core.Path.{◌≡◌}
use native.Mathlib.Omega.{arith}
use native.Mathlib.Nat.{add-zero, add_assoc}
use Rattle.rules.specs.declared.Bands.{Bands}
use Rattle.rules.specs.declared.Sums.{Sums}
use Rattle.rules.specs.Book.{Asset, asset, OffBalance, off_balance}
use Rattle.rules.specs.Rows.{asset_rows, row18}
use Rattle.records.specs.Sums.{no_sums, plus}
use Rattle.records.specs.Step.{plus_item, asset_sums, off_balance_sums}

pub plus_none : (s : Sums) → plus s no_sums ≡ s
plus_none s = simp add-zero

-- ---- one item more of a run

thousand_more : (s x y : ℕ) → s + 1000 * x + 1000 * y ≡ s + 1000 * (x + y)
thousand_more s x y = omega arith

pub asset_more : (bands : Bands) (s : Sums) (carried deducted : ℕ) (a : Asset)
    → plus_item bands (plus s (asset_sums carried deducted)) (asset a) ≡ plus s (asset_sums (carried + (asset_rows a).carried) (deducted + (asset_rows a).deducted))
asset_more bands s carried deducted a =
    rw (thousand_more s.assets carried (asset_rows a).carried, thousand_more s.deducted deducted (asset_rows a).deducted) (simp add-zero)

pub off_balance_more : (bands : Bands) (s : Sums) (notionals unconverted : ℕ) (o : OffBalance)
    → plus_item bands (plus s (off_balance_sums notionals unconverted)) (off_balance o) ≡ plus s (off_balance_sums (notionals + o.notional) (unconverted + row18 (off_balance o)))
off_balance_more bands s notionals unconverted o = rw (thousand_more s.committed notionals o.notional) (simp (add-zero, add_assoc))
