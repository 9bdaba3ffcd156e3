-- What the reading makes of a record: its words, its causes, and of an item the sums that it has gathered so far with the item's part of each row.
-- Assumes nothing.
use Rattle.std.specs.Prelude.{ℕ, zero, suc, ◌+◌, ◌*◌, ◌^◌, Bool, not, ◌&&◌, List, [], ◌∷◌, eqb, leb, drop, Result, Ok, Err}
use Rattle.rules.specs.declared.causes.Refusal.{Refusal}
use Rattle.rules.specs.Numbers.{cause_number}
use Rattle.rules.specs.declared.Bands.{Bands}
use Rattle.rules.specs.declared.Sums.{Sums}
use Rattle.rules.specs.Word.{word, kind_of, payload_of, field_of, size_of, faulty_amount}
use Rattle.rules.specs.Faults.{protection_fault, asset_fault, off_balance_fault}
use Rattle.rules.specs.Factors.{conversion_of}
use Rattle.rules.specs.Read.{stands}
use Rattle.rules.specs.Book.{Item}
use Rattle.rules.specs.Run.{Turn, over, bad, some}
use Rattle.records.specs.declared.assets.AssetWords.{AssetWords}
use Rattle.records.specs.declared.commitments.OffBalanceWords.{OffBalanceWords}
use Rattle.records.specs.declared.protections.ProtectionWords.{ProtectionWords}
use Rattle.records.specs.Cause.{record_cause}
use Rattle.records.specs.Sums.{plus, item_sums}

-- ---- an item in the sums

-- the sums with one item more
abbrev pub plus_item : Bands → Sums → Item → Sums
plus_item bands s i = plus s (item_sums bands i)

-- what stands at an item's head: what the item brings to the sums and the place behind it, or the number and the place of the first fault.
-- Places count from the item's head.
pub data ItemStep : Type 0 where
  next : Sums → (place : ℕ) → ItemStep
  refused : (number place : ℕ) → ItemStep

-- an item's turn is never over
abbrev pub item_step : Bands → Turn Item → ItemStep
item_step bands over = refused 0 0
item_step bands (bad number place) = refused number place
item_step bands (some i zero place) = next (item_sums bands i) place
item_step bands (some i (suc number) place) = refused (suc number) place

-- as the code answers it
abbrev pub step_of : Result (Sums × ℕ) Refusal → ItemStep
step_of (Ok x) = next x.0 x.1
step_of (Err r) = refused (cause_number r.cause) r.place

-- an amount, and not negative
abbrev pub plain_amount : ℕ → Bool
plain_amount w = eqb (kind_of w) 0 && not (faulty_amount w)

-- ---- protections

abbrev pub protection_words : List ℕ → ℕ → ProtectionWords
protection_words ws at = record { head = word ws at; notional = word ws (at + 1); gain = word ws (at + 2); days = word ws (at + 3) }

-- the causes 6 to 9
abbrev pub protection_cause : List ℕ → ℕ → ℕ
protection_cause ws at = record_cause 3 ws at (protection_fault (word ws at) (word ws (at + 1)) (word ws (at + 2)) (word ws (at + 3)))

-- ---- assets

-- the words of an asset at a place, and as a list
abbrev pub asset_words : List ℕ → ℕ → AssetWords
asset_words ws at = record { head = word ws at; carrying = word ws (at + 1); provision = word ws (at + 2); deducted = word ws (at + 3) }

abbrev pub asset_list : AssetWords → List ℕ
asset_list a = a.head ∷ a.carrying ∷ a.provision ∷ a.deducted ∷ []

-- the causes 6 to 9
abbrev pub asset_cause : List ℕ → ℕ
asset_cause ws = record_cause 3 ws 0 (asset_fault (word ws 0) (word ws 1) (word ws 2) (word ws 3))

-- none of them, in as few tests as there are words
unfoldable pub good_asset : AssetWords → Bool
good_asset a =
    eqb (kind_of a.head) 2 && not (leb 2 (payload_of a.head))
    && (plain_amount a.carrying && plain_amount a.provision && plain_amount a.deducted)
    && leb (size_of a.provision + size_of a.deducted) (size_of a.carrying)

-- what assets bring that come to so much in units
abbrev pub asset_sums : (carried deducted : ℕ) → Sums
asset_sums carried deducted = record {
  assets = 1000 * carried;
  deducted = 1000 * deducted;
  replacement = 0;
  weighted = 0;
  posted = 0;
  offset = 0;
  exempt = 0;
  written = 0;
  covered = 0;
  financed = 0;
  netted = 0;
  principal = 0;
  agent = 0;
  committed = 0;
  unconverted = 0;
}

-- ---- off-balance items

abbrev pub off_balance_words : List ℕ → ℕ → OffBalanceWords
off_balance_words ws at = record { head = word ws at; notional = word ws (at + 1) }

abbrev pub off_balance_list : OffBalanceWords → List ℕ
off_balance_list o = o.head ∷ o.notional ∷ []

-- the causes 6 to 8
abbrev pub off_balance_cause : List ℕ → ℕ
off_balance_cause ws = record_cause 1 ws 0 (off_balance_fault (word ws 0) (word ws 1))

-- none of them: a class that is faulty has no figure
unfoldable pub good_off_balance : OffBalanceWords → Bool
good_off_balance o =
    eqb (kind_of o.head) 10 && not (leb (2 ^ 8) (payload_of o.head))
    && plain_amount o.notional
    && not (eqb (conversion_of (field_of 0 4 o.head) (field_of 4 4 o.head)) 0)

-- what off-balance items bring of such notionals in units, and such an unconverted part in thousandths
abbrev pub off_balance_sums : (notionals unconverted : ℕ) → Sums
off_balance_sums notionals unconverted = record {
  assets = 0;
  deducted = 0;
  replacement = 0;
  weighted = 0;
  posted = 0;
  offset = 0;
  exempt = 0;
  written = 0;
  covered = 0;
  financed = 0;
  netted = 0;
  principal = 0;
  agent = 0;
  committed = 1000 * notionals;
  unconverted = unconverted;
}

-- ---- a record of some kind that stands at a place and has no fault

abbrev pub sound_at : (kind : ℕ) (cause : List ℕ → ℕ) → List ℕ → ℕ → Bool
sound_at kind cause ws at = stands kind ws at && eqb (cause (drop at ws)) 0
