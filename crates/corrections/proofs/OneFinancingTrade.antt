-- Two financing trades that are equal but for one amount, as they are read: if a claim speaks of it, it is the value lent. Assumes nothing.
use Prim.Native.Nat.{ℕ, ◌+◌, ◌-◌}
use mathlib.Core.Path.{◌≡◌, refl}
use mathlib.Core.Bool.{Bool, true}
use mathlib.Core.List.{List, [], ◌∷◌}
use native.Mathlib.Omega.{arith}
use Rattle.rules.specs.Word.{word}
use Rattle.rules.specs.Book.{FinancingTrade}
use Rattle.rules.specs.Read.{financing_trade_at}
use Rattle.cuts.specs.Words.{OneAmount}
use Rattle.cuts.proofs.OneAmount.{FinancingTradeOther}
use Rattle.corrections.specs.Roles.{head, days, gross_asset, securities, receivable, payable, value_received, lent, other, financing_trade_roles}
use Rattle.corrections.specs.Claims.{units}
use Rattle.corrections.proofs.Apart.{sizes_apart}
use Rattle.corrections.proofs.Lent.{lending, Relent}
use Rattle.corrections.proofs.Places.{role_in, spoken_of, only_there}

module _ {xs ys : List ℕ} {k : ℕ} (o : OneAmount xs ys k) where
  -- a trade in which it stands
  pub trade_corrected : (further : Bool) (at : ℕ) (t u : FinancingTrade) (next : ℕ) → FinancingTradeOther xs ys k at t u next
      → spoken_of (role_in (financing_trade_roles further t) (k - at)) ≡ true → (role_in (financing_trade_roles further t) (k - at) ≡ lent further) × Relent (units xs ys k) t u
  unfolding financing_trade_at
  trade_corrected further at t u next FinancingTradeOther.trades h =
      let q = only_there (other head ∷ other gross_asset ∷ other securities ∷ other receivable ∷ other payable ∷ []) (lent further) (other value_received ∷ other days ∷ []) refl refl (k - at) h in
      let e : k ≡ at + 5 = omega (arith, q.0) in
      let here = o.others at (λ z. omega arith) in
      let is : (j : ℕ) → (j ≡ 5 → ⊥) → word xs (at + j) ≡ word ys (at + j) = λ j n. o.others (at + j) (λ z. n (omega arith)) in
      let alike : lending 0 (financing_trade_at xs at) ≡ lending 0 (financing_trade_at ys at) =
      rw (here, is 1 (λ z. omega arith), is 2 (λ z. omega arith), is 3 (λ z. omega arith), is 4 (λ z. omega arith), is 6 (λ z. omega arith), is 7 (λ z. omega arith)) in
      (q.1, record { alike = alike; within = rw e (sizes_apart (word xs (at + 5)) (word ys (at + 5))) })
