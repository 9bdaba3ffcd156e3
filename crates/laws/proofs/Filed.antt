-- What a filing of number 0 is known by: the book is read without a fault, its covers are within, and row 21 is the sum of its items' exposures.
-- Assumes nothing.
use Prim.Native.Nat.{ℕ}
use mathlib.Core.Path.{◌≡◌, refl, ◌∙◌, ap}
use mathlib.Core.List.{List}
use native.Mathlib.Omega.{arith}
use lib.IntN.{ℤ, pos}
use lib.ListN.{length}
use Rattle.rules.specs.declared.Entry.{Entry}
use Rattle.rules.specs.Book.{Placed}
use Rattle.rules.specs.Read.{head_of, items_of}
use Rattle.rules.specs.Rows.{sum_over, rows_of}
use Rattle.rules.specs.Filing.{Outcome, number_of, outcome_of, filing_of, filing}
use Rattle.rules.specs.TwoDesks.{exposure_in}
use Rattle.laws.specs.ReadAs.{ReadAs}
use Rattle.laws.specs.Exposure.{AllWithin, exposure_of}
use Rattle.laws.proofs.Accepted.{accepted_is, Numbered, numbered}
use Rattle.laws.proofs.Settling.{all_within, book_within}
use Rattle.laws.proofs.ExposureSum.{exposure_is_sum}

-- a book, filed with these buffers, that is read as these items
pub record Filed (ws : List ℕ) (rows : List ℤ) (register : List Entry) (items : List Placed) : Type 0 where
  pub reading : ReadAs ws (length rows) (length register) items
  pub within : AllWithin items
  pub exposure : exposure_in (filing ws rows register) ≡ pos (sum_over (exposure_of (head_of ws).bands) items)

-- so is every book that is filed with number 0
pub filed_as : (ws : List ℕ) (rows : List ℤ) (register : List Entry) → (filing ws rows register).number ≡ 0 → Filed ws rows register (items_of ws).records
unfolding filing rows_of
filed_as ws rows register e = go (outcome_of ws (length rows) (length register)) refl (numbered ws (length rows) (length register)) e
  where
    go : (o : Outcome) → outcome_of ws (length rows) (length register) ≡ o → Numbered o → number_of o ≡ 0 → Filed ws rows register (items_of ws).records
    go o q Numbered.earlies z = let y : ⊥ = omega arith in absurd y
    go o q Numbered.refusals z = let y : ⊥ = omega arith in absurd y
    go o q (Numbered.acceptances {items} {left}) z =
        let a = accepted_is ws (length rows) (length register) items left q in
        rw a.reading.read (record {
          reading = a.reading;
          within = book_within items (all_within _ _ left a.fits);
          exposure = ap (λ (p : Outcome). exposure_in (filing_of (head_of ws) p rows register)) q ∙ exposure_is_sum ws (length rows) (length register) items left q;
        })
