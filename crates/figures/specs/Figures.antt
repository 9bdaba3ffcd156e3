-- The tables of the paper as the code looks them up. Assumes nothing.
use Rattle.std.specs.Prelude.{ℕ, true, false, List, [], ◌∷◌, ◌++◌, replicate}
use Rattle.rules.specs.Factors.{factors, credit_factor, conversions}

-- ---- factors: a row of three bands for each class of three bits

-- the five rows of the table, bought credit in every band, and two classes that have no figure
abbrev pub rows_with : (credit : ℕ) → List (List ℕ)
rows_with credit = factors ++ (replicate 3 credit ∷ replicate 3 0 ∷ replicate 3 0 ∷ [])

-- without a qualifying reference, then with one
abbrev pub factor_figures : List (List ℕ)
factor_figures = rows_with (credit_factor false) ++ rows_with (credit_factor true)

-- ---- conversion figures

-- where nothing is committed to 1,000, which lowers no figure; the eleven; 0 for each further class of four bits
abbrev pub conversion_figures : List ℕ
conversion_figures = 1000 ∷ (conversions ++ replicate 5 0)
