-- Two accepted books that are equal but for one amount which a claim speaks of: all items but one are the same, and row 21 of each is the sum of their
-- exposures. Assumes nothing.
use Prim.Native.Nat.{ℕ}
use mathlib.Core.Path.{◌≡◌}
use mathlib.Core.Bool.{true}
use mathlib.Core.List.{List}
use lib.IntN.{ℤ, pos}
use Rattle.rules.specs.declared.Entry.{Entry}
use Rattle.rules.specs.declared.Bands.{Bands}
use Rattle.rules.specs.Read.{head_of, items_of}
use Rattle.rules.specs.Rows.{sum_over}
use Rattle.rules.specs.Filing.{filing}
use Rattle.rules.specs.TwoDesks.{exposure_in}
use Rattle.laws.specs.Exposure.{exposure_of}
use Rattle.laws.proofs.Filed.{filed_as}
use Rattle.cuts.specs.Words.{OneAmount}
use Rattle.corrections.specs.Roles.{role_at}
use Rattle.corrections.proofs.Apart.{OneOf}
use Rattle.corrections.proofs.Places.{spoken_of}
use Rattle.corrections.proofs.Books.{CorrectedPlaced, book_corrected}

-- by row 21 of either
pub record CorrectedFilings (xs ys : List ℕ) (k : ℕ) (row row' : ℤ) : Type 0 where
  pub bands : Bands
  pub items : OneOf (CorrectedPlaced xs ys k) (items_of xs).records (items_of ys).records
  pub first_row : row ≡ pos (sum_over (exposure_of bands) (items_of xs).records)
  pub second_row : row' ≡ pos (sum_over (exposure_of bands) (items_of ys).records)

pub filings_corrected : {xs ys : List ℕ} {k : ℕ} (rows rows' : List ℤ) (register register' : List Entry)
    → OneAmount xs ys k → spoken_of (role_at xs k) ≡ true → (filing xs rows register).number ≡ 0 → (filing ys rows' register').number ≡ 0
    → CorrectedFilings xs ys k (exposure_in (filing xs rows register)) (exposure_in (filing ys rows' register'))
filings_corrected {xs} {ys} rows rows' register register' o h e f =
    let a = filed_as xs rows register e in
    let b = filed_as ys rows' register' f in
    let t = book_corrected o a.reading.number b.reading.number h in
    record { bands = (head_of xs).bands; items = t.items; first_row = a.exposure; second_row = rw t.head b.exposure }
