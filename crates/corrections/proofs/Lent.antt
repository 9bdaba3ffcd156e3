-- Value lent in a financing trade: it moves the exposure of its set by at most 1,000 thousandths for each unit, and by twice that where the agent is
-- exposed further. Assumes nothing.
use Prim.Native.Nat.{ℕ, suc, ◌+◌, ◌-◌, ◌*◌, max, ◌≤◌}
use mathlib.Core.Path.{◌≡◌, ap, fun_ext}
use mathlib.Core.Bool.{Bool, true, false, cond}
use mathlib.Core.List.{List, [], ◌∷◌, ◌++◌}
use native.Mathlib.Omega.{arith}
use Rattle.rules.specs.Book.{FinancingTrade, FinancingSet, total}
use Rattle.rules.specs.Weigh.{sum_below, on_day, netted_on, last_day, cash_netted, excess_of}
use Rattle.laws.specs.Exposure.{financing_exposure}
use Rattle.corrections.specs.Roles.{lent}
use Rattle.corrections.specs.Claims.{Ceiling}
use Rattle.corrections.proofs.Apart.{gap, OneOf, one_apart, one_same}

-- ---- a trade that lends otherwise

-- the same trade, lending so much
abbrev pub lending : ℕ → FinancingTrade → FinancingTrade
lending l t = record {
  net_settled = t.net_settled;
  asset = t.asset;
  securities = t.securities;
  receivable = t.receivable;
  payable = t.payable;
  lent = l;
  received = t.received;
  days = t.days;
}

-- equal but for that, and by at most d units
pub record Relent (d : ℕ) (t u : FinancingTrade) : Type 0 where
  pub alike : lending 0 t ≡ lending 0 u
  pub within : gap t.lent u.lent ≤ d

-- a set without its trades
abbrev pub tradeless : FinancingSet → FinancingSet
tradeless s = record { netting = s.netting; agent = s.agent; further = s.further; trades = [] }

-- equal but for one such trade
pub record RelentSet (d : ℕ) (s t : FinancingSet) : Type 0 where
  pub alike : tradeless s ≡ tradeless t
  pub trades : OneOf (Relent d) s.trades t.trades

-- ---- the cash netted is the same

module _ {d : ℕ} {l m : List FinancingTrade} (o : OneOf (Relent d) l m) where
  last_same : last_day l ≡ last_day m
  last_same = rw (o.is_first, o.is_second) (go o.before)
    where
      go : (before : List FinancingTrade) → last_day (before ++ o.first ∷ o.after) ≡ last_day (before ++ o.second ∷ o.after)
      go [] = ap (λ (t : FinancingTrade). max t.days (last_day o.after)) o.related.alike
      go (t ∷ before) = ap (λ (n : ℕ). max t.days n) (go before)

  netted_same : (day : ℕ) → netted_on l day ≡ netted_on m day
  netted_same day =
      rw (
        one_same (on_day (λ (t : FinancingTrade). t.receivable) day) o (λ a b r. ap (on_day (λ (t : FinancingTrade). t.receivable) day) r.alike),
        one_same (on_day (λ (t : FinancingTrade). t.payable) day) o (λ a b r. ap (on_day (λ (t : FinancingTrade). t.payable) day) r.alike),
      )

  cash_same : cash_netted l ≡ cash_netted m
  unfolding cash_netted
  cash_same = rw last_same (ap (λ (f : ℕ → ℕ). sum_below (suc (last_day m)) f) (fun_ext netted_same))

-- ---- the excess and the value lent

-- a part that stays, and one that moves, or two with further exposure
parts_within : {d ceiling : ℕ} (further : Bool) → Ceiling (lent further) ceiling → (b e e' l l' : ℕ) → gap e e' ≤ d → gap l l' ≤ d
    → gap (1000 * b + 1000 * e + cond further (1000 * l) 0) (1000 * b + 1000 * e' + cond further (1000 * l') 0) ≤ ceiling * d
parts_within true Ceiling.of_lent_further b e e' l l' h k = omega arith
parts_within false Ceiling.of_lent b e e' l l' h k = omega arith

-- what a set lends, and receives; the excess trade by trade; and gross assets less securities and cash netted
abbrev lent_in : FinancingSet → ℕ
lent_in s = total (λ (x : FinancingTrade). x.lent) s.trades

abbrev received_in : FinancingSet → ℕ
received_in s = total (λ (x : FinancingTrade). x.received) s.trades

abbrev excess_by_trade : FinancingSet → ℕ
excess_by_trade s = total (λ (x : FinancingTrade). x.lent - x.received) s.trades

abbrev assets_left : FinancingSet → ℕ
assets_left s = total (λ (x : FinancingTrade). x.asset - x.securities) s.trades - cash_netted s.trades

module _ (d : ℕ) (s t : FinancingSet) (r : RelentSet d s t) where
  lent_apart : gap (lent_in s) (lent_in t) ≤ d
  lent_apart = one_apart (λ (x : FinancingTrade). x.lent) r.trades d (λ a b q. q.within)

  -- over the set, or trade by trade
  excess_apart : gap (excess_of s) (excess_of t) ≤ d
  unfolding excess_of
  excess_apart =
      let netting : s.netting ≡ t.netting = ap (λ (u : FinancingSet). u.netting) r.alike in
      rw (← netting) (go s.netting)
    where
      received_same : received_in s ≡ received_in t
      received_same = one_same (λ (x : FinancingTrade). x.received) r.trades (λ a b q. ap (λ (x : FinancingTrade). x.received) q.alike)

      by_trade : gap (excess_by_trade s) (excess_by_trade t) ≤ d
      by_trade = one_apart (λ (x : FinancingTrade). x.lent - x.received) r.trades d (λ a b q. omega (arith, q.within, ap (λ (x : FinancingTrade). x.received) q.alike))

      go : (n : Bool) → gap (cond n (lent_in s - received_in s) (excess_by_trade s)) (cond n (lent_in t - received_in t) (excess_by_trade t)) ≤ d
      go true = omega (arith, lent_apart, received_same)
      go false = by_trade

  -- gross assets less securities and cash netted do not look at it
  assets_same : assets_left s ≡ assets_left t
  assets_same =
      let assets = one_same (λ (x : FinancingTrade). x.asset - x.securities) r.trades (λ a b q. ap (λ (x : FinancingTrade). x.asset - x.securities) q.alike) in
      rw (assets, cash_same r.trades)

  -- A SET: by at most 1,000 for each unit, and 2,000 with further exposure
  pub lent_ceiling : {ceiling : ℕ} → Ceiling (lent s.further) ceiling → gap (financing_exposure s) (financing_exposure t) ≤ ceiling * d
  unfolding excess_of
  lent_ceiling h =
      let further : s.further ≡ t.further = ap (λ (u : FinancingSet). u.further) r.alike in
      rw (← further, assets_same) (parts_within s.further h (assets_left t) (excess_of s) (excess_of t) (lent_in s) (lent_in t) excess_apart lent_apart)
