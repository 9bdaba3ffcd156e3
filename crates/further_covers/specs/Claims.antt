-- Request A.6: what further covers do to the exposure, of items and of accepted books. Assumes nothing.
use Rattle.std.specs.Prelude.{ℕ, ◌+◌, ◌-◌, ◌*◌, ◌≤◌, ◌≡◌, List, [], ℤ, pos, ◌+ℤ◌, ◌≤ℤ◌}
use Rattle.rules.specs.declared.Bands.{Bands}
use Rattle.rules.specs.declared.Entry.{Entry}
use Rattle.rules.specs.Word.{size_of}
use Rattle.rules.specs.Book.{WrittenCredit, DerivativeSet, Item, Placed, total}
use Rattle.rules.specs.Read.{items_of}
use Rattle.rules.specs.Weigh.{covered_of, covers_in}
use Rattle.rules.specs.Rows.{of_derivatives, sum_over}
use Rattle.rules.specs.Filing.{Filing, filing}
use Rattle.rules.specs.TwoDesks.{exposure_in}
use Rattle.rules.proofs.Lists.{Pairs}
use Rattle.laws.specs.Exposure.{AllWithin, exposure_of}
use Rattle.cuts.specs.Words.{Inserted}
use Rattle.cuts.specs.Further.{covered_by, PlacedByCredits}

-- ---- how much an exposure falls

-- thousandths for each unit of further cover, at least and at most: row 10 takes 1,000 out, and of the add-on, which is at most 100 for each unit of
-- notional, at most 100 more stay in
abbrev pub least_fall : ℕ
least_fall = 900

abbrev pub most_fall : ℕ
most_fall = 1000

pub record Falls (before after units : ℕ) : Type 0 where
  pub at_least : after + least_fall * units ≤ before
  pub at_most : before ≤ after + most_fall * units

-- from so many units of cover to no fewer: it falls for each unit more
pub record FallsWith (before after covered covered' : ℕ) : Type 0 where
  pub more : covered ≤ covered'
  pub falls : Falls before after (covered' - covered)

-- ---- items

-- two written credits that are equal but for their covers, which are no less in sum in the second
pub record CoveredNoLess (w v : WrittenCredit) : Type 0 where
  pub alike : covered_by [] w ≡ covered_by [] v
  pub covered : covered_of w ≤ covered_of v

-- units of cover in an item, and in a list of items
abbrev pub cover_in : Item → ℕ
cover_in = of_derivatives (λ (s : DerivativeSet). total covers_in s.members)

abbrev pub cover_over : List Placed → ℕ
cover_over = sum_over cover_in

-- two lists of items side by side, equal but for places and for such credits, the covers of the second within: the sum of the exposures falls
abbrev pub ItemsFall : Type 0
ItemsFall =
    (bands : Bands) (ps qs : List Placed)
    → Pairs (PlacedByCredits CoveredNoLess) ps qs
    → AllWithin qs
    → FallsWith (sum_over (exposure_of bands) ps) (sum_over (exposure_of bands) qs) (cover_over ps) (cover_over qs)

-- ---- books

-- units of cover put in: the sizes of the amounts
abbrev pub put_in : {xs ys : List ℕ} → Inserted xs ys → ℕ
put_in (Inserted.same r) = put_in r
put_in (Inserted.put {amount} k z r) = size_of amount + put_in r
put_in (Inserted.ends k l) = 0

-- units of cover in a book, as it is read
abbrev pub cover_read : List ℕ → ℕ
cover_read ws = cover_over (items_of ws).records

-- row 21 of two filings: "the second never has the larger exposure"; and sharper, it falls for each unit put in, of which as many more are read
pub record LessExposed (xs ys : List ℕ) (units : ℕ) (a b : Filing) : Type 0 where
  pub no_larger : exposure_in b ≤ℤ exposure_in a
  pub at_least : (exposure_in b +ℤ pos (least_fall * units)) ≤ℤ exposure_in a
  pub at_most : exposure_in a ≤ℤ (exposure_in b +ℤ pos (most_fall * units))
  pub covers : cover_read ys ≡ cover_read xs + units

-- "of two accepted books, where the second has further covers and is otherwise alike but for the end count", whatever their rows and registers
-- hold and however long they are
abbrev pub FurtherCovers : Type 0
FurtherCovers =
    (xs ys : List ℕ) (rows rows' : List ℤ) (register register' : List Entry) (r : Inserted xs ys)
    → (filing xs rows register).number ≡ 0
    → (filing ys rows' register').number ≡ 0
    → LessExposed xs ys (put_in r) (filing xs rows register) (filing ys rows' register')
