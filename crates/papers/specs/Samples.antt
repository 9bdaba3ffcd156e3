-- Request A.12: books whose settings part, with counts that were worked out by hand from document 01. Assumes nothing.
use Rattle.std.specs.Prelude.{ℕ, ◌+◌, ◌^◌, ◌≡◌, List, [], ◌∷◌, map, length, replicate}
use Rattle.rules.specs.Register.{blank}
use Rattle.cuts.proofs.Written.{joined, book_of}
use Rattle.cuts.proofs.SampleBooks.{head_word, an_asset, empty_set, a_set, empty_financing}
use Rattle.settings.specs.Settings.{Counted, turned_away, counting}

-- ---- books

-- at 1 March 2096, with this Tier 1 and one protection of 500
abbrev front : (tier1 : ℕ) → List ℕ
front tier1 = head_word 1 1 ∷ tier1 ∷ 35124 ∷ head_word 3 1 ∷ 500 ∷ 0 ∷ 90 ∷ []

abbrev book : (tier1 : ℕ) → List (List ℕ) → List ℕ
book tier1 items = book_of (front tier1) items (head_word 15 (length (front tier1) + length (joined items)))

-- the set of document 01 with a hundred times its figures, so that 3% are whole units: two currency trades of 100,000 at 365 days, values 3,000 and
-- -1,000, margin received 500; filed with some marks, and with some margin paid. Without netting it comes to 3,000 and 2,000, netted to 2,000 and 1,600, with
-- margin to 1,500 and 1,600, in units; margin paid counts unless bits 0 to 4 are all 1, of an exempt leg too.
abbrev currency_set : (marks paid : ℕ) → List ℕ
currency_set marks paid =
    head_word 4 marks ∷ 500 ∷ paid ∷ 0 ∷ head_word 5 9 ∷ 3000 ∷ 100000 ∷ 365 ∷ 365 ∷ head_word 5 9 ∷ (2 ^ 27 + 1000) ∷ 100000 ∷ 365 ∷ 365 ∷ []

-- ---- cases

pub record Case : Type 0 where
  pub book : List ℕ
  pub ordinal : ℕ
  pub entries : ℕ
  pub answer : Counted

abbrev case : List ℕ → (ordinal entries : ℕ) → Counted → Case
case book ordinal entries answer = record { book = book; ordinal = ordinal; entries = entries; answer = answer }

abbrev counts : (met missed none : ℕ) → Counted
counts met missed none = record { number = 0; place = 0; met = met; missed = missed; no_exposure = none }

unfoldable pub cases : List Case
cases =
    -- exposure 5,000 in 16 settings, 3,600 in 15, 3,100 in one, none in 32: 108 is just 3% of 3,600, 107 is less
    case (book 108 (currency_set 0 0 ∷ [])) 0 1 (counts 16 16 32)
    ∷ case (book 107 (currency_set 0 0 ∷ [])) 0 1 (counts 1 31 32)
    ∷ case (book 150 (currency_set 0 0 ∷ [])) 0 1 (counts 32 0 32)
    -- the marks that the set is filed with have no part in it
    ∷ case (book 108 (currency_set 63 0 ∷ [])) 0 1 (counts 16 16 32)
    ∷ case (book 107 (currency_set 31 0 ∷ [])) 0 1 (counts 1 31 32)
    -- with 100 of margin paid an exempt leg leaves 100 in 31 settings and nothing in one, and 3,600 become 3,700
    ∷ case (book 108 (currency_set 0 100 ∷ [])) 0 1 (counts 32 31 1)
    -- beside an asset of 400 no setting leaves nothing; 3,100 become 3,500, and 105 is 3% of that
    ∷ case (book 105 (currency_set 0 0 ∷ an_asset 400 ∷ [])) 0 1 (counts 33 31 0)
    -- negative Tier 1 is never enough, and with no exposure nothing is asked of it
    ∷ case (book (2 ^ 27 + 1) (currency_set 0 0 ∷ [])) 0 1 (counts 0 32 32)
    -- a trade, a basket and a credit with two covers: 70 of the credit stay, exempt or not, and the basket's add-on of 50 goes with the mark alone
    ∷ case (book 3 (a_set 0 ∷ [])) 0 1 (counts 32 32 0)
    -- "kinds 4 and 8 counted together": a financing set is refused 15, and so is an ordinal with no set
    ∷ case (book 108 (empty_financing ∷ currency_set 0 0 ∷ empty_set ∷ [])) 0 1 (turned_away 15 0)
    ∷ case (book 108 (empty_financing ∷ currency_set 0 0 ∷ empty_set ∷ [])) 1 1 (counts 16 16 32)
    -- an empty set changes nothing, whatever its marks
    ∷ case (book 108 (empty_financing ∷ currency_set 0 0 ∷ empty_set ∷ [])) 2 1 (counts 0 64 0)
    ∷ case (book 108 (empty_financing ∷ currency_set 0 0 ∷ empty_set ∷ [])) 3 1 (turned_away 15 0)
    -- a refused book gives its own number and place: 14 for a wrong count in its end word, 4 for a register of none, 3
    ∷ case (book_of (front 108) (currency_set 0 0 ∷ []) (head_word 15 20)) 0 1 (turned_away 14 21)
    ∷ case (book_of (front 108) (currency_set 0 0 ∷ []) (head_word 15 20)) 1 1 (turned_away 14 21)
    ∷ case (book 108 (currency_set 0 0 ∷ [])) 0 0 (turned_away 4 0)
    ∷ case [] 0 1 (turned_away 3 0)
    ∷ []

abbrev given : Case → Counted
given c = counting c.book c.ordinal (replicate c.entries blank)

abbrev listed : Case → Counted
listed c = c.answer

abbrev pub CasesHold : Type 0
CasesHold = map given cases ≡ map listed cases
