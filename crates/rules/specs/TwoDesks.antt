-- Document 01, demand 3: what recognition marks may change. Two books that are equal but for marks that are set in the second and not
-- in the first, and the claim about their two filings. Assumes nothing.
use Rattle.std.specs.Prelude.{ℕ, ◌*◌, ◌/◌, ◌%◌, ◌^◌, ◌≤◌, ◌<◌, ◌≡◌, ◌⊎◌, List, [], ◌∷◌, ℤ, pos, length, get_or, ◌≤ℤ◌, ◌<ℤ◌}
use Rattle.rules.specs.declared.Bands.{Bands}
use Rattle.rules.specs.declared.Entry.{Entry}
use Rattle.rules.specs.Word.{word, marks_in}
use Rattle.rules.specs.Book.{Item, asset, derivatives, financing, off_balance, Placed}
use Rattle.rules.specs.Read.{head_of, items_of}
use Rattle.rules.specs.Rows.{tally_in, gross_weighted}
use Rattle.rules.specs.Filing.{Filing, filing}

-- the words differ in marks at most, and no mark of the first is missing in the second
pub record MoreMarks (a b : ℕ) : Type 0 where
  pub above : a / 2 ^ marks_in a ≡ b / 2 ^ marks_in a
  pub kept : (i : ℕ) → i < marks_in a → a / 2 ^ i % 2 ≤ b / 2 ^ i % 2

-- word for word, wherever the words stand
pub record MoreRecognised (xs ys : List ℕ) : Type 0 where
  pub long : length xs ≡ length ys
  pub at : (i : ℕ) → MoreMarks (word xs i) (word ys i)

-- "five times the weighted add-on of that is at least twice and at most five times the gross", the A of the set's tally
abbrev pub WithinShare : Bands → Item → Type 0
WithinShare bands (asset a) = Unit {0}
WithinShare bands (derivatives s) = (2 * (tally_in bands s).add_on ≤ 5 * gross_weighted bands s) × (5 * gross_weighted bands s ≤ 5 * (tally_in bands s).add_on)
WithinShare bands (financing s) = Unit {0}
WithinShare bands (off_balance o) = Unit {0}

abbrev pub AllWithinShare : Bands → List Placed → Type 0
AllWithinShare bands [] = Unit {0}
AllWithinShare bands (p ∷ ps) = WithinShare bands p.item × AllWithinShare bands ps

-- the row at place k of a filing, which is row k + 1
abbrev pub row_of : Filing → ℕ → ℤ
row_of f k = get_or f.rows k (pos 0)

abbrev pub tier1_row : Filing → ℤ
tier1_row f = row_of f 19

abbrev pub exposure_in : Filing → ℤ
exposure_in f = row_of f 20

abbrev pub ratio_row : Filing → ℤ
ratio_row f = row_of f 21

-- of two accepted books: never more exposure, never a worse verdict or ratio
pub record NoWorse (xs ys : List ℕ) (a b : Filing) : Type 0 where
  pub exposure : exposure_in b ≤ℤ exposure_in a
  pub shares_of_first : AllWithinShare (head_of xs).bands (items_of xs).records
  pub shares_of_second : AllWithinShare (head_of ys).bands (items_of ys).records
  pub verdict : a.verdict ≡ 0 → (b.verdict ≡ 0) ⊎ (b.verdict ≡ 2)
  pub ratio : pos 0 ≤ℤ tier1_row a → pos 0 <ℤ exposure_in b → ratio_row a ≤ℤ ratio_row b

-- refused with the same number at the same place, or both accepted and the second no worse
pub record SameOrBetter (xs ys : List ℕ) (a b : Filing) : Type 0 where
  pub number : a.number ≡ b.number
  pub place : a.place ≡ b.place
  pub accepted : a.number ≡ 0 → NoWorse xs ys a b

-- THE CLAIM: any two such books, rows of one length and registers of one length, whatever they hold
abbrev pub TwoDesks : Type 0
TwoDesks =
    (xs ys : List ℕ) (rows rows' : List ℤ) (register register' : List Entry)
    → MoreRecognised xs ys
    → length rows ≡ length rows'
    → length register ≡ length register'
    → SameOrBetter xs ys (filing xs rows register) (filing ys rows' register')
