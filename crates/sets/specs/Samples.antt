-- Request A.1: a book with sets of each kind, empty and with members, two of them equal word for word, and what is shown of it. Assumes nothing.
use Rattle.std.specs.Prelude.{ℕ, ◌+◌, ◌-◌, ◌^◌, ◌≡◌, List, [], ◌∷◌, ◌++◌, map}
use Rattle.cuts.proofs.Written.{book_of}
use Rattle.cuts.proofs.SampleBooks.{head_word, sample_front, an_asset, empty_set, a_set, a_credit, a_cover, empty_financing, a_financing_trade, a_commitment, book_with}
use Rattle.sets.specs.Sets.{Shown, turned_away, showing}

-- a book, an ordinal and how many entries are lent, and what is shown
pub record Case : Type 0 where
  pub book : List ℕ
  pub ordinal : ℕ
  pub entries : ℕ
  pub answer : Shown

abbrev case : List ℕ → (ordinal entries : ℕ) → Shown → Case
case book ordinal entries answer = record { book = book; ordinal = ordinal; entries = entries; answer = answer }

abbrev stretch : (begin end : ℕ) → Shown
stretch begin end = record { number = 0; place = 0; begin = begin; end = end }

-- behind a head and a protection, seven words, so that the first set begins at place 7
abbrev items : List (List ℕ)
items = empty_set ∷ an_asset 7 ∷ empty_financing ∷ empty_financing ∷ a_set 0 ∷ a_commitment ∷ (empty_financing ++ a_financing_trade) ∷ empty_set ∷ []

abbrev book : List ℕ
book = book_with items

-- the same with a wrong count in its end word, which stands at place 56
abbrev miscounted : List ℕ
miscounted = book_of sample_front items (head_word 15 55)

-- a set with a cover of more than its credit; the cover stands at place 17
abbrev overcovered : List ℕ
overcovered = book_with ((empty_set ++ a_credit ++ a_cover 101) ∷ [])

unfoldable pub cases : List Case
cases =
    -- an empty derivative set has four words, an empty financing set one
    case book 0 1 (stretch 7 11)
    ∷ case book 1 1 (stretch 15 16)
    -- equal word for word to the one before
    ∷ case book 2 1 (stretch 16 17)
    -- a trade, a basket, a credit with two covers: 4 + 5 + 5 + 6 + 2 + 2 words
    ∷ case book 3 1 (stretch 17 41)
    ∷ case book 4 1 (stretch 43 52)
    -- equal word for word to the first, and the last item
    ∷ case book 5 1 (stretch 52 56)
    -- "An ordinal with no set is refused 15 ... with place 0"
    ∷ case book 6 1 (turned_away 15 0)
    ∷ case book (2 ^ 32 + 5) 1 (turned_away 15 0)
    ∷ case book (2 ^ 64 - 1) 1 (turned_away 15 0)
    ∷ case (book_with (an_asset 7 ∷ a_commitment ∷ [])) 0 1 (turned_away 15 0)
    -- "A refused book gives its own number and place", with a set and without one: 14, 13, 4 for a register of none, 3
    ∷ case miscounted 0 1 (turned_away 14 56)
    ∷ case miscounted 6 1 (turned_away 14 56)
    ∷ case overcovered 0 1 (turned_away 13 17)
    ∷ case overcovered 1 1 (turned_away 13 17)
    ∷ case book 0 0 (turned_away 4 0)
    ∷ case [] 0 1 (turned_away 3 0)
    ∷ []

abbrev given : Case → Shown
given c = showing c.book c.ordinal c.entries

abbrev listed : Case → Shown
listed c = c.answer

abbrev pub CasesHold : Type 0
CasesHold = map given cases ≡ map listed cases
