-- Two accepted books that are equal but for one amount: where it has an exact effect, it moves row 21 by just that. Assumes nothing.
use Prim.Native.Nat.{ℕ, ◌*◌}
use mathlib.Core.Path.{◌≡◌, refl, ◌∙◌, ap}
use mathlib.Core.Bool.{true}
use lib.IntN.{pos}
use Rattle.rules.specs.Book.{Placed}
use Rattle.laws.specs.Exposure.{exposure_of}
use Rattle.corrections.specs.Roles.{Role}
use Rattle.corrections.specs.Effects.{Effect, EffectsExact}
use Rattle.corrections.proofs.Apart.{one_rises}
use Rattle.corrections.proofs.Corrected.{corrected_exact}
use Rattle.corrections.proofs.Places.{spoken_of}
use Rattle.corrections.proofs.Filings.{filings_corrected}

-- a claim speaks of all that has an exact effect
effect_spoken : {role : Role} {figure : ℕ} → Effect role figure → spoken_of role ≡ true
effect_spoken Effect.of_carrying = refl
effect_spoken Effect.for_off_balance = refl
effect_spoken Effect.of_fiduciary = refl

-- THE EXACT EFFECT OF A CORRECTION
pub effects_exact : EffectsExact
effects_exact role figure x xs ys k d rows rows' register register' o r s e f =
    let t = filings_corrected rows rows' register register' o (ap spoken_of r ∙ effect_spoken x) e f in
    let risen = one_rises (λ (p : Placed). exposure_of t.bands p.item) t.items (figure * d) (λ p q c. corrected_exact t.bands (rw r at c) x d s) in
    rw (t.first_row, t.second_row) (ap pos risen)
