-- Document 01, "Factors": figures per thousand (annex, paragraphs 1, 3 and 14 to 22). Assumes nothing.
use Rattle.std.specs.Prelude.{ℕ, ◌-◌, min, max, Bool, cond, ◌&&◌, List, [], ◌∷◌, eqb, leb, ltb, get_or}
use Rattle.rules.specs.declared.Bands.{Bands}

-- ---- add-on factors

-- "for 365 days or less, up to 1,825, beyond"; the two figures are the counted days of the bands (request A.2)
abbrev pub band_of : Bands → ℕ → ℕ
band_of bands days = cond (leb days bands.short) 0 (cond (leb days bands.medium) 1 2)

-- rates, currency and gold, equity, other precious metals, other commodities
abbrev pub factors : List (List ℕ)
factors =
    (0 ∷ 5 ∷ 15 ∷ [])
    ∷ (10 ∷ 50 ∷ 75 ∷ [])
    ∷ (60 ∷ 80 ∷ 100 ∷ [])
    ∷ (70 ∷ 70 ∷ 80 ∷ [])
    ∷ (100 ∷ 120 ∷ 150 ∷ [])
    ∷ []

-- the figure of a class and a band; 0 for a class that the table does not have, such as 6, floating against floating
abbrev pub factor_at : (class band : ℕ) → ℕ
factor_at class band = get_or (get_or factors class []) band 0

-- "Credit: 50 qualifying, 100 not"
abbrev pub credit_factor : Bool → ℕ
credit_factor qualifying = cond qualifying 50 100

-- "With bit 11 the reset days choose the band; a rates trade with more than 365 days remaining then has at least 5"; "The reset floor uses
-- the same one-year end"
unfoldable pub market_factor : Bands → (class : ℕ) (resets : Bool) (days reset_days : ℕ) → ℕ
market_factor bands class resets days reset_days =
    cond resets
    (cond (eqb class 0 && ltb bands.short days) (max 5 (factor_at class (band_of bands reset_days))) (factor_at class (band_of bands reset_days)))
    (factor_at class (band_of bands days))

-- the factor of a trade; class 5 is bought credit
unfoldable pub trade_factor : Bands → (class : ℕ) (resets qualifying : Bool) (days reset_days : ℕ) → ℕ
trade_factor bands class resets qualifying days reset_days =
    cond (eqb class 5) (credit_factor qualifying) (market_factor bands class resets days reset_days)

-- ---- conversion figures

-- commitment to one year, longer, cancellable, credit substitute, forward purchase, transaction contingency, note facility,
-- trade letter, securitisation, eligible liquidity, servicer advance
abbrev pub conversions : List ℕ
conversions = 200 ∷ 500 ∷ 100 ∷ 1000 ∷ 1000 ∷ 500 ∷ 500 ∷ 200 ∷ 1000 ∷ 500 ∷ 100 ∷ []

abbrev pub conversion_at : ℕ → ℕ
conversion_at class = get_or conversions class 0

-- "With bits 4-7 the lower of two applies": they are 0, or one more than the class of the item committed to
unfoldable pub conversion_of : (class committed : ℕ) → ℕ
conversion_of class committed = cond (eqb committed 0) (conversion_at class) (min (conversion_at class) (conversion_at (committed - 1)))
