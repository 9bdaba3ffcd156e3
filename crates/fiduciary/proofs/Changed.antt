-- An answer changes exactly where an accepted book holds a fiduciary asset with d above 0. Assumes nothing.
use Prim.Native.Nat.{ℕ, zero, suc, ◌≤◌, ◌<◌}
use mathlib.Core.Path.{◌≡◌, refl, sym, ◌∙◌, ap}
use mathlib.Core.Bool.{Bool, true, false}
use mathlib.Core.List.{List, [], ◌∷◌, Memᴰ}
use mathlib.Core.Logic.{◌⊎◌, inl, inr, ◌≢◌}
use native.Mathlib.Omega.{arith}
use lib.IntN.{ℤ, pos, nat_abs}
use lib.ListN.{length, get_or}
use Rattle.rules.specs.declared.Entry.{Entry}
use Rattle.rules.specs.Book.{Head, Item, asset, derivatives, financing, off_balance, Placed, total}
use Rattle.rules.specs.Read.{head_of}
use Rattle.rules.specs.Rows.{sum_over, sums_of, rows_of}
use Rattle.rules.specs.Filing.{Outcome, early, refused, accepted, outcome_of, Filing, filing_of, filing}
use Rattle.fiduciary.specs.Former.{former_sums, former_filing_of, former_filing}
use Rattle.fiduciary.specs.Claims.{fiduciary_deduction, DeductionShown, DeductedFiduciary, OneAmong, HoldsDeducted, ChangedJustThere}
use Rattle.fiduciary.proofs.Shown.{assets_shown, accepted_shown, none_shown}

-- ---- nothing shown, nothing changed

unchanged : (f g : Filing) → DeductionShown 0 f g → g ≡ f
unchanged f g d = made_same d.number d.place d.verdict (d.rows ∙ sym (none_shown f.rows)) d.register
  where
    made : (number place verdict : ℕ) → List ℤ → List Entry → Filing
    made number place verdict rows register = record { number = number; place = place; verdict = verdict; rows = rows; register = register }

    made_same : {n n' p p' v v' : ℕ} {r r' : List ℤ} {e e' : List Entry} → n ≡ n' → p ≡ p' → v ≡ v' → r ≡ r' → e ≡ e' → made n p v r e ≡ made n' p' v' r' e'
    made_same h i j k l = cc

-- ---- something shown, and a fiduciary asset with d above 0 among the items

item_found : (i : Item) → DeductedFiduciary i ⊎ (fiduciary_deduction i ≡ 0)
item_found (asset a) = go a.fiduciary refl a.deducted refl
  where
    go : (b : Bool) → a.fiduciary ≡ b → (d : ℕ) → a.deducted ≡ d → DeductedFiduciary (asset a) ⊎ (fiduciary_deduction (asset a) ≡ 0)
    go true e zero q = inr (rw (e, q))
    go true e (suc d) q = inl (e, omega arith)
    go false e d q = inr (rw e)
item_found (derivatives s) = inr refl
item_found (financing s) = inr refl
item_found (off_balance o) = inr refl

found : (ps : List Placed) → OneAmong ps ⊎ (sum_over fiduciary_deduction ps ≡ 0)
found [] = inr refl
found (p ∷ ps) = go (item_found p.item) (found ps)
  where
    go : DeductedFiduciary p.item ⊎ (fiduciary_deduction p.item ≡ 0) → OneAmong ps ⊎ (sum_over fiduciary_deduction ps ≡ 0) → OneAmong (p ∷ ps) ⊎ (sum_over fiduciary_deduction (p ∷ ps) ≡ 0)
    go (inl d) rest = inl (record { placed = p; held = Memᴰ.head refl; is = d })
    go (inr z) (inl h) = inl (record { placed = h.placed; held = Memᴰ.tail h.held; is = h.is })
    go (inr z) (inr y) = inr (omega arith)

item_above : (i : Item) → DeductedFiduciary i → 0 < fiduciary_deduction i
item_above (asset a) (e, d) = rw e d
item_above (derivatives s) d = absurd d
item_above (financing s) d = absurd d
item_above (off_balance o) d = absurd d

-- a sum is at least what one of the list adds to it
one_of_all : {A : Type 0} (f : A → ℕ) {x : A} {xs : List A} → Memᴰ x xs → f x ≤ total f xs
one_of_all f (Memᴰ.head e) = rw e (omega arith)
one_of_all f (Memᴰ.tail m) = omega (arith, one_of_all f m)

above : (ps : List Placed) → OneAmong ps → 0 < sum_over fiduciary_deduction ps
above ps h = omega (arith, one_of_all (λ (p : Placed). fiduciary_deduction p.item) h.held, item_above h.placed.item h.is)

-- ---- the answers

module _ (head : Head) (rows : List ℤ) (register : List Entry) where
  changed : (o : Outcome) → (filing_of head o rows register ≢ former_filing_of head o rows register) → HoldsDeducted o
  changed (early number) n = n refl
  changed (refused number place) n = n refl
  changed (accepted ps left) n = go (found ps)
    where
      go : OneAmong ps ⊎ (sum_over fiduciary_deduction ps ≡ 0) → OneAmong ps
      go (inl h) = h
      go (inr z) = absurd (n (unchanged _ _ (rw z at (accepted_shown head ps left rows register))))

  holds : (o : Outcome) → HoldsDeducted o → (filing_of head o rows register ≢ former_filing_of head o rows register)
  unfolding rows_of
  holds (early number) h = absurd h
  holds (refused number place) h = absurd h
  holds (accepted ps left) h = λ e.
      let z : (sums_of head.bands ps).assets ≡ (former_sums head.bands ps).assets = ap (λ (f : Filing). nat_abs (get_or f.rows 0 (pos 0))) e in
      omega (arith, assets_shown head.bands ps, above ps h)

pub changed_just_there : ChangedJustThere
unfolding filing former_filing
changed_just_there ws rows register =
    let o = outcome_of ws (length rows) (length register) in
    (changed (head_of ws) rows register o, holds (head_of ws) rows register o)
