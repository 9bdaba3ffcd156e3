-- The factor of a trade as the code works it out. Assumes nothing.
use Rattle.std.specs.Prelude.{ℕ, ◌+◌, Bool, cond, ◌&&◌, eqb, leb, ltb}
use Rattle.rules.specs.declared.Bands.{Bands}
use Rattle.rules.specs.Factors.{band_of, credit_factor, factor_at}

-- what the reset floor adds to the figure of a trade: 5 where the days that decide are in the first band, whose figure for rates is 0, and the
-- remaining days are not
unfoldable pub floor_of : Bands → (class days deciding : ℕ) → ℕ
floor_of bands class days deciding = cond (eqb class 0 && (ltb bands.short days && leb deciding bands.short)) 5 0

-- the figure of a class in a band; class 5 is bought credit
unfoldable pub figure_of : (class : ℕ) (qualifying : Bool) (band : ℕ) → ℕ
figure_of class qualifying band = cond (eqb class 5) (credit_factor qualifying) (factor_at class band)

-- by the days that remain and those that decide on the band
unfoldable pub factor_by : Bands → (class : ℕ) (qualifying : Bool) (days deciding : ℕ) → ℕ
factor_by bands class qualifying days deciding = floor_of bands class days deciding + figure_of class qualifying (band_of bands deciding)
