-- The tally of a set's trades: its sums are those of the definitions, and its cash is that of the days one after the other.
-- Assumes nothing.
use Prim.Native.Nat.{ℕ, ◌+◌, ◌-◌, min}
use mathlib.Core.Path.{◌≡◌, refl, sym, ◌∙◌}
use mathlib.Core.Bool.{Bool, true, false, cond}
use mathlib.Core.List.{List, [], ◌∷◌}
use native.Mathlib.Omega.{arith}
use native.Mathlib.Nat.{add-zero, zero-add}
use borrow.Author.Tests.{eqb-true}
use lib.Dec.{eqb}
use Rattle.rules.specs.Book.{FinancingTrade, total}
use Rattle.rules.specs.Weigh.{cash_netted}
use Rattle.financing.specs.declared.tally.FinancingTally.{FinancingTally}
use Rattle.financing.specs.Netting.{netted_from, NeverFall}
use Rattle.financing.specs.Weighing.{no_tally, settled, tallied, tally_from, netted_in}
use Rattle.financing.proofs.DayByDay.{day_by_day}

-- ---- sums

-- what each trade adds to, from nothing on
module _ (sum : FinancingTally → ℕ) (f : FinancingTrade → ℕ) (none : sum no_tally ≡ 0) (one : (t : FinancingTally) (x : FinancingTrade) → sum (tallied t x) ≡ sum t + f x) where
  onto : (t : FinancingTally) (ts : List FinancingTrade) → sum (tally_from t ts) ≡ sum t + total f ts
  unfolding tally_from
  onto t [] = sym (add-zero (sum t))
  onto t (x ∷ xs) = omega (arith, onto (tallied t x) xs, one t x)

  tally_total : (ts : List FinancingTrade) → sum (tally_from no_tally ts) ≡ total f ts
  tally_total ts = omega (arith, onto no_tally ts, none)

module _ (ts : List FinancingTrade) where
  pub tally_assets : (tally_from no_tally ts).assets ≡ total (λ (x : FinancingTrade). x.asset - x.securities) ts
  unfolding tallied settled
  tally_assets = tally_total (λ t. t.assets) (λ x. x.asset - x.securities) refl (λ t x. refl) ts

  pub tally_lent : (tally_from no_tally ts).lent ≡ total (λ (x : FinancingTrade). x.lent) ts
  unfolding tallied settled
  tally_lent = tally_total (λ t. t.lent) (λ x. x.lent) refl (λ t x. refl) ts

  pub tally_received : (tally_from no_tally ts).received ≡ total (λ (x : FinancingTrade). x.received) ts
  unfolding tallied settled
  tally_received = tally_total (λ t. t.received) (λ x. x.received) refl (λ t x. refl) ts

  pub tally_excess : (tally_from no_tally ts).excess ≡ total (λ (x : FinancingTrade). x.lent - x.received) ts
  unfolding tallied settled
  tally_excess = tally_total (λ t. t.excess) (λ x. x.lent - x.received) refl (λ t x. refl) ts

-- ---- cash

tally_from_lem : (t : FinancingTally) (ts : List FinancingTrade) → netted_in (tally_from t ts) ≡ netted_from t.closed t.day t.receivable t.payable ts
unfolding tally_from tallied settled netted_from
tally_from_lem t [] = refl
tally_from_lem t (x ∷ xs) = tally_from_lem (tallied t x) xs ∙ go (eqb x.days t.day) refl
  where
    go : (b : Bool) → eqb x.days t.day ≡ b
        → netted_from (t.closed + cond b 0 (min t.receivable t.payable)) x.days
        (cond b t.receivable 0 + cond x.net_settled x.receivable 0)
        (cond b t.payable 0 + cond x.net_settled x.payable 0) xs
        ≡ cond b
        (netted_from t.closed t.day (t.receivable + cond x.net_settled x.receivable 0) (t.payable + cond x.net_settled x.payable 0) xs)
        (netted_from (t.closed + min t.receivable t.payable) x.days (cond x.net_settled x.receivable 0) (cond x.net_settled x.payable 0) xs)
    go true e = simp (add-zero, eqb-true x.days t.day e)
    go false e = simp zero-add

pub tally_netted : (ts : List FinancingTrade) → NeverFall 0 ts → netted_in (tally_from no_tally ts) ≡ cash_netted ts
tally_netted ts h = tally_from_lem no_tally ts ∙ day_by_day ts h
