-- Two accepted books that are equal but for one amount: where it has a ceiling, it moves row 21 within that. Assumes nothing.
use Prim.Native.Nat.{ℕ, ◌*◌}
use mathlib.Core.Path.{◌≡◌, refl, ◌∙◌, ap}
use mathlib.Core.Bool.{true}
use Rattle.rules.specs.Book.{Placed}
use Rattle.rules.specs.Read.{items_of}
use Rattle.rules.specs.Rows.{sum_over}
use Rattle.laws.specs.Exposure.{exposure_of}
use Rattle.corrections.specs.Roles.{Role}
use Rattle.corrections.specs.Claims.{Ceiling, units, CeilingsHold}
use Rattle.corrections.proofs.Apart.{whole_apart, one_apart}
use Rattle.corrections.proofs.Corrected.{corrected_ceiling}
use Rattle.corrections.proofs.Places.{spoken_of}
use Rattle.corrections.proofs.Filings.{filings_corrected}

-- a claim speaks of all that has a ceiling
ceiling_spoken : {role : Role} {ceiling : ℕ} → Ceiling role ceiling → spoken_of role ≡ true
ceiling_spoken Ceiling.of_carrying = refl
ceiling_spoken Ceiling.for_off_balance = refl
ceiling_spoken Ceiling.of_value = refl
ceiling_spoken Ceiling.of_lent = refl
ceiling_spoken Ceiling.of_lent_further = refl

-- A CEILING ON A CORRECTION
pub ceilings_hold : CeilingsHold
ceilings_hold role ceiling c xs ys k rows rows' register register' o r e f =
    let t = filings_corrected rows rows' register register' o (ap spoken_of r ∙ ceiling_spoken c) e f in
    let exposure = exposure_of t.bands in
    let moved = one_apart (λ (p : Placed). exposure p.item) t.items (ceiling * units xs ys k) (λ p q d. corrected_ceiling t.bands (rw r at d) c) in
    rw (t.first_row, t.second_row, whole_apart (sum_over exposure (items_of xs).records) (sum_over exposure (items_of ys).records)) moved
