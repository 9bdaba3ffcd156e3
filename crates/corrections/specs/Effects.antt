-- Request A.13: by how much row 21 rises where one amount of an accepted book is raised, exactly. Assumes nothing.
use Rattle.std.specs.Prelude.{ℕ, ◌+◌, ◌*◌, ◌≡◌, true, false, List, ℤ, pos, ◌+ℤ◌}
use Rattle.rules.specs.declared.Entry.{Entry}
use Rattle.rules.specs.Word.{word}
use Rattle.rules.specs.Factors.{conversion_of}
use Rattle.rules.specs.Filing.{filing}
use Rattle.rules.specs.TwoDesks.{exposure_in}
use Rattle.cuts.specs.Words.{OneAmount}
use Rattle.corrections.specs.Roles.{Role, carrying, off_balance_notional, role_at}
use Rattle.corrections.specs.Claims.{signed_of}

-- thousandths of row 21 for each unit, by what the amount is, in the order of the request. It names no other amount.
pub data Effect : Role → ℕ → Type 0 where
  -- "without the fiduciary mark ... exactly 1,000 times d"
  of_carrying : Effect (carrying false) 1000
  -- "exactly d times its conversion figure": the lower of two where bits 4-7 name a second class
  for_off_balance : {class committed : ℕ} → Effect (off_balance_notional class committed) (conversion_of class committed)
  -- "with the fiduciary mark it is exactly 0"
  of_fiduciary : Effect (carrying true) 0

-- the amount at a place, with its sign, is larger by d units in the second book
abbrev pub Raised : (xs ys : List ℕ) (k d : ℕ) → Type 0
Raised xs ys k d = signed_of (word ys k) ≡ signed_of (word xs k) +ℤ pos d

-- for every two accepted books that are equal but for an amount, which is of this role and larger by d units in the second: row 21 of the second is that of
-- the first and so many thousandths for each unit; whatever their rows and registers hold and however long they are
abbrev pub RisesBy : Role → ℕ → Type 0
RisesBy role figure =
    (xs ys : List ℕ) (k d : ℕ) (rows rows' : List ℤ) (register register' : List Entry)
    → OneAmount xs ys k
    → role_at xs k ≡ role
    → Raised xs ys k d
    → (filing xs rows register).number ≡ 0
    → (filing ys rows' register').number ≡ 0
    → exposure_in (filing ys rows' register') ≡ exposure_in (filing xs rows register) +ℤ pos (figure * d)

-- THE CLAIM
abbrev pub EffectsExact : Type 0
EffectsExact = (role : Role) (figure : ℕ) → Effect role figure → RisesBy role figure

-- ---- no other figure holds

-- of all such pairs of books
abbrev pub OnlyFigure : Role → ℕ → Type 0
OnlyFigure role figure = (other : ℕ) → RisesBy role other → other ≡ figure

-- of an asset without the mark; of a commitment beyond one year; of a credit substitute whose second class is the cancellable commitment, and the other way
-- round; and of an asset with the mark
pub record OnlyFigures : Type 0 where
  pub of_carrying : OnlyFigure (carrying false) 1000
  pub for_off_balance : OnlyFigure (off_balance_notional 1 0) 500
  pub of_lower_second : OnlyFigure (off_balance_notional 3 (1 + 2)) 100
  pub of_higher_second : OnlyFigure (off_balance_notional 2 (1 + 3)) 100
  pub of_fiduciary : OnlyFigure (carrying true) 0
