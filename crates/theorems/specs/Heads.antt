-- Request A.2: heads that are refused before the records, and dates that are not, filed with the samples' buffers, which hold another
-- bank's data. Assumes nothing.
use Rattle.std.specs.Prelude.{ℕ, ◌≡◌, List, [], ◌∷◌}
use Rattle.rules.specs.Calendar.{last_date}
use Rattle.rules.specs.Read.{first_record}
use Rattle.rules.specs.Filing.{Filing, filing}
use Rattle.theorems.specs.Samples.{head_word, minus, dirty_rows, dirty_register, sample_date}

pub record Refused : Type 0 where
  pub book : List ℕ
  pub number : ℕ

abbrev refused : List ℕ → ℕ → Refused
refused book number = record { book = book; number = number }

abbrev minus_zero : ℕ
minus_zero = minus 0

-- a head and the end word
abbrev empty : (head tier1 date : ℕ) → List ℕ
empty head tier1 date = head ∷ tier1 ∷ date ∷ head_word 15 first_record ∷ []

-- the register has two entries, so that a count of three is too many
unfoldable pub heads : List Refused
heads =
    -- "A date out of range, or not a good amount, is refused 16"
    refused (empty (head_word 1 0) 0 36525) 16
    ∷ refused (empty (head_word 1 0) 0 minus_zero) 16
    ∷ refused (empty (head_word 1 0) 0 (minus 1)) 16
    ∷ refused (empty (head_word 1 0) 0 (head_word 2 sample_date)) 16
    -- "after 3": a faulty Tier 1 or head word beside a faulty date
    ∷ refused (empty (head_word 1 0) minus_zero minus_zero) 3
    ∷ refused (empty (head_word 2 0) 0 minus_zero) 3
    -- "and before 4": a register too short, with a faulty date and with a good one
    ∷ refused (empty (head_word 1 3) 0 minus_zero) 16
    ∷ refused (empty (head_word 1 3) 0 sample_date) 4
    -- "A book under three words is now refused 3", though a missing date would be day 0
    ∷ refused (head_word 1 0 ∷ 0 ∷ []) 3
    ∷ refused [] 3
    ∷ []

-- "at place 0 ... with both buffers untouched"
abbrev untouched : ℕ → Filing
untouched number = record { number = number; place = 0; verdict = 3; rows = dirty_rows; register = dirty_register }

abbrev pub AllUntouched : List Refused → Type 0
AllUntouched [] = Unit {0}
AllUntouched (r ∷ rs) = (filing r.book dirty_rows dirty_register ≡ untouched r.number) × AllUntouched rs

-- the first date and the last are good: the empty book has no exposure
abbrev empty_at : ℕ → ℕ
empty_at date = (filing (empty (head_word 1 0) 0 date) dirty_rows dirty_register).verdict

pub record HeadCases : Type 0 where
  pub refusals : AllUntouched heads
  pub first_date : empty_at 0 ≡ 2
  pub at_last_date : empty_at last_date ≡ 2
