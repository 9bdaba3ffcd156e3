-- Two assets, or two off-balance items, that are equal but for one amount, as they are read: if a claim speaks of it, it is the carrying amount or the
-- notional. Assumes nothing.
use Prim.Native.Nat.{ℕ}
use mathlib.Core.Path.{◌≡◌, refl, ◌∙◌}
use mathlib.Core.Bool.{true}
use mathlib.Core.List.{List, [], ◌∷◌}
use native.Mathlib.Omega.{arith}
use Rattle.rules.specs.Word.{word}
use Rattle.rules.specs.Book.{asset, off_balance}
use Rattle.rules.specs.Read.{asset_at, off_balance_at}
use Rattle.cuts.specs.Words.{OneAmount}
use Rattle.corrections.specs.Roles.{head, provision, deducted, carrying, off_balance_notional, other, item_roles}
use Rattle.corrections.proofs.Corrected.{Corrected}
use Rattle.corrections.proofs.Allowed.{Allowed}
use Rattle.corrections.proofs.Places.{role_in, spoken_of, only_there}

module _ {xs ys : List ℕ} {k : ℕ} (o : OneAmount xs ys k) where
  -- the other words of a record whose first amount it is
  beside : k ≡ 1 → (i : ℕ) → (i ≡ 1 → ⊥) → word xs i ≡ word ys i
  beside e i n = o.others i (λ z. n (z ∙ e))

  pub asset_corrected : Allowed xs (asset (asset_at xs)) → Allowed ys (asset (asset_at ys)) → spoken_of (role_in (item_roles (asset (asset_at xs))) k) ≡ true
      → Corrected (word xs k) (word ys k) (role_in (item_roles (asset (asset_at xs))) k) (asset (asset_at xs)) (asset (asset_at ys))
  unfolding asset_at
  asset_corrected v w h =
      let q = only_there (other head ∷ []) (carrying (asset_at xs).fiduciary) (other provision ∷ other deducted ∷ []) refl refl k h in
      let is = beside q.0 in
      let a = is 0 (λ e. omega arith) in
      let b = is 2 (λ e. omega arith) in
      let c = is 3 (λ e. omega arith) in
      rw (q.1, q.0, ← a, ← b, ← c) (Corrected.of_asset (asset_at xs) _ _ v.1 w.1 v.0 (rw (b, c) w.0))

  pub off_balance_corrected : Allowed xs (off_balance (off_balance_at xs)) → Allowed ys (off_balance (off_balance_at ys))
      → spoken_of (role_in (item_roles (off_balance (off_balance_at xs))) k) ≡ true
      → Corrected (word xs k) (word ys k) (role_in (item_roles (off_balance (off_balance_at xs))) k) (off_balance (off_balance_at xs)) (off_balance (off_balance_at ys))
  unfolding off_balance_at
  off_balance_corrected v w h =
      let q = only_there (other head ∷ []) (off_balance_notional (off_balance_at xs).class (off_balance_at xs).committed) [] refl refl k h in
      rw (q.1, q.0, ← beside q.0 0 (λ e. omega arith)) (Corrected.for_off_balance (off_balance_at xs) _ _ v.1 w.1)
