-- Each row as one difference, as the code computes it; and the sections one after the other. Assumes nothing.
use Prim.Native.Nat.{ℕ, ◌+◌, ◌-◌, ◌^◌, ◌<◌}
use mathlib.Core.Path.{◌≡◌, sym, ◌∙◌, ap}
use mathlib.Core.List.{List}
use native.Mathlib.Omega.{arith}
use lib.IntN.{ℤ, pos, sub_ℕ}
use lib.ListN.{replicate}
use lib.Signed.{mag}
use mir.Syntax.{w64}
use mir.Val.{of_z, to_z}
use Rattle.rules.specs.declared.Sums.{Sums}
use Rattle.rules.specs.Rows.{of_derivative_rows, exposure_row, rows_of}
use Rattle.rules.proofs.Differences.{Difference, of_pos, of_minus, as_difference, same, plus}
use Rattle.laws.proofs.ExposureSum.{exposure_row_is}
use Rattle.template.specs.Sections.{SumsFit, counted_up, counted_down, with_on_balance, with_derivatives, with_financing, with_off_balance, with_ratio}
use Rattle.template.proofs.Reading.{read}

-- a row that a call of `signed` gave
pub row : {z v : ℤ} {a b : ℕ} → mag z < 2 ^ 63 → z ≡ sub_ℕ a b → Difference v a b → to_z w64 (of_z w64 z) ≡ v
row h e d = read h (e ∙ sym d.is)

-- ---- the rows that are sums of others

module _ (s : Sums) where
  pub derivatives_are : Difference (of_derivative_rows s) (s.replacement + s.weighted + s.posted + s.written) (s.offset + s.exempt + s.covered)
  derivatives_are =
      as_difference _ _ (plus (plus (plus (plus (plus (plus (of_pos s.replacement) (of_pos s.weighted)) (of_pos s.posted)) (of_minus s.offset)) (of_minus s.exempt)) (of_pos s.written)) (of_minus s.covered)) (omega arith)

-- ---- row 21

row21 : (s : Sums) → SumsFit s → exposure_row s ≡ pos (counted_up s - counted_down s)
row21 s h = same (exposure_row_is s) (as_difference _ _ (of_pos (counted_up s - counted_down s)) (omega (arith, h.within)))

pub exposure_is : (s : Sums) → SumsFit s → (up down : ℕ) → up ≡ counted_up s → down ≡ counted_down s → pos (up - down) ≡ exposure_row s
exposure_is s h up down e f = sym (row21 s h ∙ ap pos (omega arith))

-- ---- the sections one after the other

pub sections_are : (s : Sums) (gain loss : ℕ) {first second third fourth last : List ℤ}
    → first ≡ with_on_balance (replicate 22 (pos 0)) s → second ≡ with_derivatives first s → third ≡ with_financing second s
    → fourth ≡ with_off_balance third s → last ≡ with_ratio fourth s gain loss → last ≡ rows_of s gain loss
unfolding rows_of
sections_are s gain loss a b c d e =
    e
    ∙ ap (λ (rows : List ℤ). with_ratio rows s gain loss)
    (d
    ∙ ap (λ (rows : List ℤ). with_off_balance rows s)
    (c
    ∙ ap (λ (rows : List ℤ). with_financing rows s)
    (b ∙ ap (λ (rows : List ℤ). with_derivatives rows s) a)))
