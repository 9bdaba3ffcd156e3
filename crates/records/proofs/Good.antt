-- What counts of an item of one record; and such an item in the part of the book that begins there. Assumes nothing.
use Prim.Native.Nat.{ℕ, zero, suc, ◌+◌, ◌-◌, ◌≤◌}
use mathlib.Core.Path.{◌≡◌, refl}
use mathlib.Core.Bool.{Bool, true, not, ◌&&◌, cond}
use mathlib.Core.List.{List}
use native.Mathlib.Nat.{add-zero, zero-add}
use native.Mathlib.Omega.{arith}
use borrow.Author.Tests.{leb-true}
use Rattle.std.proofs.lemmas.Bool.Decides.{nat_tests}
use lib.Dec.{eqb, leb}
use lib.ListN.{length, drop, length-drop}
use lib.Seq.{get_or-drop}
use Rattle.rules.specs.Word.{word, kind_of, bit_of, payload_of, size_of}
use Rattle.rules.specs.Faults.{asset_fault, off_balance_fault}
use Rattle.rules.specs.Read.{lacks, asset_at}
use Rattle.rules.specs.Rows.{asset_rows}
use Rattle.rules.proofs.Lists.{and_right}
use Rattle.records.specs.declared.assets.AssetWords.{AssetWords}
use Rattle.records.specs.Step.{asset_list, asset_cause, good_asset, plain_amount, off_balance_cause, sound_at}
use Rattle.records.specs.Cause.{sound_record}

-- the same of the part of the book that begins there
module _ (ws : List ℕ) (at : ℕ) where
  word_here : (k : ℕ) → word (drop at ws) k ≡ word ws (at + k)
  word_here k = get_or-drop at ws k 0

  lacks_here : (n : ℕ) → lacks n (drop at ws) 0 ≡ lacks n ws at
  unfolding lacks
  lacks_here zero = refl
  lacks_here (suc n) =
      let short : leb (length (drop at ws)) (0 + suc n) ≡ leb (length ws) (at + suc n) = grind (arith, nat_tests, length-drop at ws) in
      simp (short, word_here, lacks_here n) (simp zero-add)

  pub asset_part : sound_record 2 3 ws at (asset_fault (word ws at) (word ws (at + 1)) (word ws (at + 2)) (word ws (at + 3))) ≡ sound_at 2 asset_cause ws at
  asset_part = simp (lacks_here, word_here, add-zero)

  pub off_balance_part : sound_record 10 1 ws at (off_balance_fault (word ws at) (word ws (at + 1))) ≡ sound_at 10 off_balance_cause ws at
  off_balance_part = simp (lacks_here, word_here, add-zero)

-- "p + d at most c"
pub good_within : (a : AssetWords) → good_asset a ≡ true → size_of a.provision ≤ size_of a.carrying
unfolding good_asset
good_within a e =
    let amounts = plain_amount a.carrying && plain_amount a.provision && plain_amount a.deducted in
    let l = leb-true (size_of a.provision + size_of a.deducted) (size_of a.carrying) (and_right (eqb (kind_of a.head) 2 && not (leb 2 (payload_of a.head)) && amounts) _ e) in
    omega arith

-- ---- what counts of an asset

-- the mark chooses between d and c − p
pub carried_is : (a : AssetWords) {r deducted net : ℕ} {fiduciary : Bool}
    → r ≡ cond fiduciary deducted net → fiduciary ≡ bit_of 0 a.head → deducted ≡ size_of a.deducted → net ≡ size_of a.carrying - size_of a.provision
    → r ≡ (asset_rows (asset_at (asset_list a))).carried
unfolding asset_rows asset_at
carried_is a q m d n = cc

pub deducted_is : (a : AssetWords) {r : ℕ} → r ≡ size_of a.deducted → r ≡ (asset_rows (asset_at (asset_list a))).deducted
unfolding asset_rows asset_at
deducted_is a e = e
