-- What else holds of every call that counts settings: beside a set that is shown, beside filings, and of its counts. Assumes nothing.
use Rattle.std.specs.Prelude.{ℕ, ◌+◌, ◌≤◌, ◌<◌, ◌≡◌, cond, List, eqb, ℤ, length}
use Rattle.rules.specs.declared.Entry.{Entry}
use Rattle.rules.specs.Word.{word, kind_of}
use Rattle.rules.specs.Filing.{filing}
use Rattle.other_marks.specs.Marked.{settings, book_with}
use Rattle.sets.specs.Sets.{Shown, showing}
use Rattle.settings.specs.Settings.{Counted, verdict_with, counts_of, turned_away, counting}

module _ (ws : List ℕ) (ordinal : ℕ) (register : List Entry) where
  abbrev shown : Shown
  shown = showing ws ordinal (length register)

  abbrev counted : Counted
  counted = counting ws ordinal register

  -- ---- beside the set that request A.1 shows: "Ordinals, rows, register and place are as in A.1"

  pub record LikeShown : Type 0 where
    -- what is not shown is refused with the same number and place
    pub refusal : (shown.number ≡ 0 → ⊥) → counted ≡ turned_away shown.number shown.place
    -- of a derivative set the settings of its head are counted
    pub derivative : shown.number ≡ 0 → kind_of (word ws shown.begin) ≡ 4 → counted ≡ counts_of (verdict_with ws register shown.begin)
    -- and a financing set is refused 15
    pub financing : shown.number ≡ 0 → kind_of (word ws shown.begin) ≡ 8 → counted ≡ turned_away 15 0

  -- ---- beside filings with any rows that are enough

  -- EVERY SETTING is a book that is accepted and leaves the same register
  abbrev pub LikeFiled : (rows : List ℤ) (m : ℕ) → Type 0
  LikeFiled rows m =
      ((filing (book_with ws shown.begin m) rows register).number ≡ 0) × ((filing (book_with ws shown.begin m) rows register).register ≡ (filing ws rows register).register)

  -- how many settings lead to a verdict, as answered
  abbrev pub count_for : (verdict : ℕ) → ℕ
  count_for verdict = cond (eqb verdict 0) counted.met (cond (eqb verdict 1) counted.missed counted.no_exposure)

abbrev pub AsShown : Type 0
AsShown = (ws : List ℕ) (ordinal : ℕ) (register : List Entry) → LikeShown ws ordinal register

abbrev pub EverySetting : Type 0
EverySetting =
    (ws : List ℕ) (ordinal : ℕ) (register : List Entry) → (counting ws ordinal register).number ≡ 0
    → (rows : List ℤ) → 22 ≤ length rows → (m : ℕ) → m < settings → LikeFiled ws ordinal register rows m

-- the setting that the book is filed with is one of them, so that its verdict is counted
abbrev pub FiledCounted : Type 0
FiledCounted =
    (ws : List ℕ) (ordinal : ℕ) (register : List Entry) → (counting ws ordinal register).number ≡ 0
    → (rows : List ℤ) → 22 ≤ length rows → 1 ≤ count_for ws ordinal register (filing ws rows register).verdict

-- what rows and register hold has no part in a verdict
abbrev pub SameVerdict : Type 0
SameVerdict =
    (ws : List ℕ) (rows rows' : List ℤ) (register register' : List Entry) → 22 ≤ length rows → 22 ≤ length rows' → length register ≡ length register'
    → (filing ws rows register).verdict ≡ (filing ws rows' register').verdict

-- ---- "The three counts ... sum to 64"

abbrev pub SumTo64 : Type 0
SumTo64 =
    (ws : List ℕ) (ordinal : ℕ) (register : List Entry) → (counting ws ordinal register).number ≡ 0
    → (counting ws ordinal register).met + (counting ws ordinal register).missed + (counting ws ordinal register).no_exposure ≡ 64
