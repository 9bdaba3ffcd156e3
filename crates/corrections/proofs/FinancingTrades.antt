-- Two financing sets that are equal but for one amount, as they are read: if a claim speaks of it, it is the value lent in a trade. Assumes nothing.
use Prim.Native.Nat.{ℕ, ◌≤◌}
use mathlib.Core.Path.{◌≡◌, refl, ◌∙◌}
use mathlib.Core.Bool.{true}
use mathlib.Core.List.{List, [], ◌∷◌}
use native.Mathlib.Omega.{arith}
use Rattle.rules.specs.Word.{word}
use Rattle.rules.specs.Book.{FinancingTrade, financing}
use Rattle.rules.specs.Read.{financing_set_at}
use Rattle.cuts.specs.Words.{OneAmount}
use Rattle.cuts.proofs.Chains.{chain_onward}
use Rattle.cuts.proofs.Records.{FinancingTradeRead, financing_trade_onward}
use Rattle.cuts.proofs.Steps.{OneOther}
use Rattle.cuts.proofs.OneAmount.{FinancingTradeOther}
use Rattle.corrections.specs.Roles.{head, lent, other, financing_trade_roles, item_roles}
use Rattle.corrections.proofs.Apart.{one_of}
use Rattle.corrections.proofs.Lent.{tradeless}
use Rattle.corrections.proofs.Corrected.{Corrected}
use Rattle.corrections.proofs.Places.{role_in, role_of_other, spoken_of}
use Rattle.corrections.proofs.Counted.{financing_trade_words_lem}
use Rattle.corrections.proofs.OneFinancingTrade.{trade_corrected}

module _ {xs ys : List ℕ} {k : ℕ} (o : OneAmount xs ys k) where
  -- A SET in one of whose trades it stands
  pub trades_corrected : (l m : List FinancingTrade) → OneOther (FinancingTradeRead xs) (FinancingTradeRead ys) (FinancingTradeOther xs ys k) k 1 l m
      → spoken_of (role_in (item_roles (financing (financing_set_at xs l))) k) ≡ true
      → Corrected (word xs k) (word ys k) (role_in (item_roles (financing (financing_set_at xs l))) k) (financing (financing_set_at xs l)) (financing (financing_set_at ys m))
  unfolding financing_set_at
  trades_corrected l m c h =
      let further = (financing_set_at xs l).further in
      let there = role_of_other (financing_trade_roles further) (financing_trade_words_lem xs further) (other head ∷ []) refl c in
      let q = trade_corrected o further c.at c.first c.second c.next c.step (rw there at h) in
      let far : 1 ≤ k = omega (arith, c.from, chain_onward (λ i a j r. (financing_trade_onward xs i a j r).0) c.reads_before) in
      let alike : tradeless (financing_set_at xs l) ≡ tradeless (financing_set_at ys m) = rw (o.others 0 (λ z. omega arith)) in
      let e : role_in (item_roles (financing (financing_set_at xs l))) k ≡ lent further = there ∙ q.0 in
      rw e (Corrected.for_financing (record { alike = alike; trades = one_of c q.1 }))
