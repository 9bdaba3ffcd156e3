-- Two items that are equal but for one amount, by which amount it is: where it has an exact effect, it moves their exposure by just that; where it has a
-- ceiling, within that. Assumes nothing.
use Prim.Native.Nat.{ℕ, ◌+◌, ◌*◌, ◌≤◌}
use mathlib.Core.Path.{◌≡◌, sym, ◌∙◌, ap}
use native.Mathlib.Omega.{arith}
use lib.IntN.{ℤ, pos, nat_abs, ◌+ℤ◌}
use Rattle.rules.specs.declared.Bands.{Bands}
use Rattle.rules.specs.Book.{Asset, DerivativeSet, FinancingSet, OffBalance, Item, asset, derivatives, financing, off_balance}
use Rattle.laws.specs.Exposure.{exposure_of}
use Rattle.corrections.specs.Roles.{Role, carrying, off_balance_notional, value, lent}
use Rattle.corrections.specs.Claims.{Ceiling, apart, signed_of}
use Rattle.corrections.specs.Effects.{Effect}
use Rattle.corrections.proofs.Apart.{gap, whole_apart}
use Rattle.corrections.proofs.Exact.{exact_ceiling, carried_at, carrying_exact, carrying_within, of_notional, notional_exact, notional_within}
use Rattle.corrections.proofs.Values.{RevaluedSet, value_ceiling}
use Rattle.corrections.proofs.Lent.{RelentSet, lent_ceiling}

-- by the amount's word in either, and its role. A carrying amount and an off-balance notional are never negative.
pub data Corrected (w v : ℕ) : Role → Item → Item → Type 0 where
  of_asset : (a : Asset) (c c' : ℕ) → signed_of w ≡ pos c → signed_of v ≡ pos c' → a.provision + a.deducted ≤ c → a.provision + a.deducted ≤ c'
      → Corrected w v (carrying a.fiduciary) (asset (carried_at c a)) (asset (carried_at c' a))
  for_off_balance : (o : OffBalance) (n n' : ℕ) → signed_of w ≡ pos n → signed_of v ≡ pos n'
      → Corrected w v (off_balance_notional o.class o.committed) (off_balance (of_notional n o)) (off_balance (of_notional n' o))
  for_derivatives : {s t : DerivativeSet} → RevaluedSet (apart (signed_of w) (signed_of v)) s t → Corrected w v (value s.netting) (derivatives s) (derivatives t)
  for_financing : {s t : FinancingSet} → RelentSet (apart (signed_of w) (signed_of v)) s t → Corrected w v (lent s.further) (financing s) (financing t)

-- of two numbers that are not negative the second is larger by d
larger : {y z : ℤ} {m n : ℕ} (d : ℕ) → y ≡ pos m → z ≡ pos n → z ≡ y +ℤ pos d → n ≡ m + d
larger d e f s = ap nat_abs (sym f ∙ s ∙ ap (λ (x : ℤ). x +ℤ pos d) e)

-- just the effect
pub corrected_exact : (bands : Bands) {w v : ℕ} {role : Role} {i j : Item} {figure : ℕ} → Corrected w v role i j → Effect role figure
    → (d : ℕ) → signed_of v ≡ signed_of w +ℤ pos d → exposure_of bands j ≡ exposure_of bands i + figure * d
corrected_exact bands (Corrected.of_asset a c c' e f h k) x d s = rw (larger d e f s) ((carrying_exact bands a x).adds c d h)
corrected_exact bands (Corrected.for_off_balance o n n' e f) x d s = rw (larger d e f s) ((notional_exact bands o x).adds n d (omega arith))
corrected_exact bands (Corrected.for_derivatives r) x d s = elim x [ ]
corrected_exact bands (Corrected.for_financing r) x d s = elim x [ ]

-- within the ceiling
pub corrected_ceiling : (bands : Bands) {w v : ℕ} {role : Role} {i j : Item} {ceiling : ℕ} → Corrected w v role i j → Ceiling role ceiling
    → gap (exposure_of bands i) (exposure_of bands j) ≤ ceiling * apart (signed_of w) (signed_of v)
corrected_ceiling bands (Corrected.of_asset a c c' e f h k) l =
    let x = carrying_within a.fiduciary l in
    rw (e, f, whole_apart c c') (exact_ceiling (carrying_exact bands a x.effect) c c' h k x.within)
corrected_ceiling bands (Corrected.for_off_balance o n n' e f) l =
    let x = notional_within o.class o.committed l in
    rw (e, f, whole_apart n n') (exact_ceiling (notional_exact bands o x.effect) n n' (omega arith) (omega arith) x.within)
corrected_ceiling bands {w} {v} (Corrected.for_derivatives {s} {t} r) l = value_ceiling bands (apart (signed_of w) (signed_of v)) s t r l
corrected_ceiling bands {w} {v} (Corrected.for_financing {s} {t} r) l = lent_ceiling (apart (signed_of w) (signed_of v)) s t r l
