-- What else holds of every set that is shown: beside a filing of the same book, and beside other sets. Assumes nothing.
use Rattle.std.specs.Prelude.{ℕ, ◌≤◌, ◌<◌, ◌≡◌, true, List, ℤ, length}
use Rattle.rules.specs.declared.Entry.{Entry}
use Rattle.rules.specs.Word.{word, kind_of}
use Rattle.rules.specs.Read.{head_of, items_of}
use Rattle.rules.specs.Filing.{admission, register_after, filing}
use Rattle.cuts.proofs.ByKind as by_kind
use Rattle.sets.specs.Sets.{Shown, sets_of, turned_away, showing}

-- ---- beside a filing of the same book with the same register, and with rows enough

module _ (ws : List ℕ) (ordinal : ℕ) (rows : List ℤ) (register : List Entry) where
  abbrev shown : Shown
  shown = showing ws ordinal (length register)

  pub record LikeFiling : Type 0 where
    -- "A refused book gives its own number and place", whatever the ordinal
    pub refusal : ((filing ws rows register).number ≡ 0 → ⊥) → shown ≡ turned_away (filing ws rows register).number (filing ws rows register).place
    -- of an accepted one there are as many sets as were read, and 15 is for all other ordinals
    pub there : (filing ws rows register).number ≡ 0 → ordinal < length (sets_of (items_of ws).records) → shown.number ≡ 0
    pub missing : (filing ws rows register).number ≡ 0 → length (sets_of (items_of ws).records) ≤ ordinal → shown ≡ turned_away 15 0
    -- "the register ends as a filing of that book leaves it, also where only this call refuses"
    pub settled : register_after (head_of ws) (admission ws (length register)) register ≡ (filing ws rows register).register

abbrev pub AsFiled : Type 0
AsFiled = (ws : List ℕ) (ordinal : ℕ) (rows : List ℤ) (register : List Entry) → 22 ≤ length rows → LikeFiling ws ordinal rows register

-- ---- a stretch that is shown

pub record Stretches (ws : List ℕ) (s : Shown) : Type 0 where
  pub some : s.begin < s.end
  pub before_end : s.end < length ws
  pub head : by_kind.is_set (kind_of (word ws s.begin)) ≡ true

-- no set is empty of words, and it begins with a word of kind 4 or 8
abbrev pub SetsStretch : Type 0
SetsStretch = (ws : List ℕ) (ordinal entries : ℕ) → (showing ws ordinal entries).number ≡ 0 → Stretches ws (showing ws ordinal entries)

-- the stretch of a later ordinal begins where that of an earlier one has ended, or behind it; so sets of equal words are two stretches
abbrev pub SetsApart : Type 0
SetsApart =
    (ws : List ℕ) (earlier later entries : ℕ) → earlier < later → (showing ws later entries).number ≡ 0
    → (showing ws earlier entries).end ≤ (showing ws later entries).begin
