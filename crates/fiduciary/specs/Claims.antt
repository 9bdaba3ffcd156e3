-- Request A.9: what it changes of a filing, and where. Assumes nothing.
use Rattle.std.specs.Prelude.{ℕ, ◌*◌, ◌<◌, ◌≡◌, true, cond, ◌↔◌, ◌≢◌, ℤ, pos, ◌+ℤ◌, length}
use mathlib.Core.List.{List, [], ◌∷◌, Memᴰ}
use Rattle.rules.specs.declared.Bands.{Bands}
use Rattle.rules.specs.declared.Entry.{Entry}
use Rattle.rules.specs.Book.{Asset, Item, asset, derivatives, financing, off_balance, Placed}
use Rattle.rules.specs.Rows.{minus, sum_over}
use Rattle.rules.specs.Filing.{Outcome, early, refused, accepted, outcome_of, Filing, filing}
use Rattle.laws.specs.Exposure.{exposure_of}
use Rattle.fiduciary.specs.Former.{former_filing}

-- ---- a fiduciary asset by itself: no exposure, whatever its provision and the part deducted

abbrev pub NoExposure : Type 0
NoExposure = (bands : Bands) (a : Asset) → a.fiduciary ≡ true → exposure_of bands (asset a) ≡ 0

-- ---- how much a filing changes

-- d of a fiduciary asset
abbrev pub fiduciary_deduction : Item → ℕ
fiduciary_deduction (asset a) = cond a.fiduciary a.deducted 0
fiduciary_deduction (derivatives s) = 0
fiduciary_deduction (financing s) = 0
fiduciary_deduction (off_balance o) = 0

-- 1,000 times the sum of d over an accepted book's fiduciary assets
abbrev pub shown_in : Outcome → ℕ
shown_in (early number) = 0
shown_in (refused number place) = 0
shown_in (accepted items left) = 1000 * sum_over fiduciary_deduction items

-- row 1 larger and row 2 smaller by so much, all other rows and places the same
abbrev pub with_shown : ℕ → List ℤ → List ℤ
with_shown n [] = []
with_shown n (r1 ∷ []) = r1 ∷ []
with_shown n (r1 ∷ r2 ∷ rest) = (r1 +ℤ pos n) ∷ (r2 +ℤ minus n) ∷ rest

pub record DeductionShown (shown : ℕ) (former now : Filing) : Type 0 where
  pub number : now.number ≡ former.number
  pub place : now.place ≡ former.place
  pub verdict : now.verdict ≡ former.verdict
  pub rows : now.rows ≡ with_shown shown former.rows
  pub register : now.register ≡ former.register

-- for every book, rows and register
abbrev pub AgainstFormer : Type 0
AgainstFormer =
    (ws : List ℕ) (rows : List ℤ) (register : List Entry)
    → DeductionShown (shown_in (outcome_of ws (length rows) (length register))) (former_filing ws rows register) (filing ws rows register)

-- ---- where it changes

-- a fiduciary asset with d above 0
abbrev pub DeductedFiduciary : Item → Type 0
DeductedFiduciary (asset a) = (a.fiduciary ≡ true) × (0 < a.deducted)
DeductedFiduciary (derivatives s) = ⊥
DeductedFiduciary (financing s) = ⊥
DeductedFiduciary (off_balance o) = ⊥

-- one of the items is such an asset
pub record OneAmong (items : List Placed) : Type 0 where
  pub placed : Placed
  pub held : Memᴰ placed items
  pub is : DeductedFiduciary placed.item

-- an accepted book holds one
abbrev pub HoldsDeducted : Outcome → Type 0
HoldsDeducted (early number) = ⊥
HoldsDeducted (refused number place) = ⊥
HoldsDeducted (accepted items left) = OneAmong items

-- an answer changes exactly there
abbrev pub ChangedJustThere : Type 0
ChangedJustThere =
    (ws : List ℕ) (rows : List ℤ) (register : List Entry)
    → (filing ws rows register ≢ former_filing ws rows register) ↔ HoldsDeducted (outcome_of ws (length rows) (length register))
