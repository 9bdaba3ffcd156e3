-- What further marks do to an item's exposure: it never grows. Assumes nothing.
use Prim.Native.Nat.{ℕ, suc, ◌+◌, ◌-◌, ◌*◌, min, ◌≤◌}
use mathlib.Core.Path.{◌≡◌, refl, ap}
use mathlib.Core.Bool.{Bool, true, false, ◌&&◌, cond}
use mathlib.Core.List.{List, [], ◌∷◌}
use native.Mathlib.Omega.{arith}
use native.Mathlib.Nat.{mul-le-mul_left}
use lib.Dec.{eqb}
use Rattle.rules.specs.declared.Bands.{Bands}
use Rattle.rules.specs.Book.{Asset, Member, DerivativeSet, FinancingTrade, FinancingSet, Item, Placed, total}
use Rattle.rules.specs.Weigh.{Tally, tally_of, net_of, margin_offsets, replacement_of, weighted_in, written_in, covers_in, on_day, netted_on, last_day, cash_netted, excess_of}
use Rattle.rules.specs.Rows.{asset_rows, tally_in, sum_over}
use Rattle.rules.proofs.Lists.{Pairs, pairs_total}
use Rattle.rules.proofs.Weighted.{at_most}
use Rattle.laws.proofs.Financing.{below_le}
use Rattle.laws.specs.Exposure.{exposure_of, derivative_exposure, financing_exposure}
use Rattle.two_desks.proofs.Related.{Kept, MoreAsset, MoreSet, MoreTrade, MoreFinancing, MoreItem, MorePlaced}

-- a mark that is lost
lost : {X : Type 0} → Kept true false → X
lost k = let z : ◌≡◌ {A = ℕ} 0 1 = cc (k refl) in absurd (omega arith)

-- what a mark takes out, and what a mark puts in
out_less : (a b : Bool) (x y : ℕ) → Kept a b → y ≤ x → cond b 0 y ≤ cond a 0 x
out_less true true x y k h = omega arith
out_less true false x y k h = lost k
out_less false true x y k h = omega arith
out_less false false x y k h = h

in_more : (a b : Bool) (x : ℕ) → Kept a b → cond a x 0 ≤ cond b x 0
in_more true true x k = omega arith
in_more true false x k = lost k
in_more false true x k = omega arith
in_more false false x k = omega arith

-- the lesser of two where a mark is set
lesser_kept : (a b : Bool) (x y : ℕ) → Kept a b → x ≤ y → cond b x y ≤ cond a x y
lesser_kept true true x y k h = omega arith
lesser_kept true false x y k h = lost k
lesser_kept false true x y k h = h
lesser_kept false false x y k h = omega arith

both_kept : (a b c d : Bool) → Kept a b → Kept c d → Kept (a && c) (b && d)
both_kept true true c d k h = h
both_kept true false c d k h = lost k
both_kept false b c d k h = λ e. let z : ◌≡◌ {A = ℕ} 0 1 = cc in absurd (omega arith)

-- ---- assets

-- what the mark leaves of row 1, row 2 takes out
asset_less : (a b : Asset) → MoreAsset a b → (asset_rows b).carried - (asset_rows b).deducted ≤ (asset_rows a).carried - (asset_rows a).deducted
unfolding asset_rows
asset_less a b m = rw (← m.carrying, ← m.provision, ← m.deducted) (go a.fiduciary b.fiduciary m.fiduciary (a.carrying - a.provision) a.deducted)
  where
    go : (f g : Bool) → Kept f g → (x y : ℕ) → cond g y x - y ≤ cond f y x - y
    go true true k x y = omega arith
    go true false k x y = lost k
    go false true k x y = omega arith
    go false false k x y = omega arith

-- ---- derivative sets

module _ (s t : DerivativeSet) (m : MoreSet s t) where
  offsets_kept : Kept (margin_offsets s) (margin_offsets t)
  offsets_kept =
      both_kept (s.netting && s.not_segregated && s.daily && s.same_currency) (t.netting && t.not_segregated && t.daily && t.same_currency) s.full_amount t.full_amount
      (both_kept (s.netting && s.not_segregated && s.daily) (t.netting && t.not_segregated && t.daily) s.same_currency t.same_currency
      (both_kept (s.netting && s.not_segregated) (t.netting && t.not_segregated) s.daily t.daily
      (both_kept s.netting t.netting s.not_segregated t.not_segregated m.netting m.not_segregated)
      m.daily)
      m.same_currency)
      m.full_amount

  -- margin received counts only where netting is marked
  replacement_less : (y : Tally) → replacement_of t y ≤ replacement_of s y
  unfolding replacement_of
  replacement_less y = rw (← m.received) (go s.netting t.netting m.netting (margin_offsets s) (margin_offsets t) offsets_kept)
    where
      go : (a b : Bool) → Kept a b → (c d : Bool) → Kept c d
          → cond b (cond d (net_of y - s.received) (net_of y)) y.gains ≤ cond a (cond c (net_of y - s.received) (net_of y)) y.gains
      go true false k c d h = lost k
      go true true k true false h = lost h
      go true true k true true h = omega arith
      go true true k false true h = omega arith
      go true true k false false h = omega arith
      go false true k c true h = omega arith
      go false true k c false h = omega arith
      go false false k c d h = omega arith

  weighted_less : (y : Tally) (x : ℕ) → weighted_in t y x ≤ weighted_in s y x
  unfolding weighted_in
  weighted_less y x = lesser_kept s.netting t.netting _ x m.netting (at_most x y.gains (net_of y) (omega arith))

  -- the members, and so the tally, are the same
  derivative_less : (bands : Bands) → derivative_exposure bands t ≤ derivative_exposure bands s
  derivative_less bands =
      omega (
        arith,
        out_less s.exempt t.exempt (of_tally s (tally_in bands s)) (of_tally t (tally_in bands t)) m.exempt tally_less,
        out_less (margin_offsets s) (margin_offsets t) (1000 * s.paid) (1000 * t.paid) offsets_kept (omega (arith, m.paid)),
        m.posted,
        ap (λ (ms : List Member). total written_in ms) m.members,
        ap (λ (ms : List Member). total covers_in ms) m.members,
      )
    where
      of_tally : DerivativeSet → Tally → ℕ
      of_tally x y = 1000 * replacement_of x y + weighted_in x y (y.add_on - y.uncovered)

      tally_less : of_tally t (tally_in bands t) ≤ of_tally s (tally_in bands s)
      tally_less =
          let y = tally_in bands s in
          let same = ap (λ (ms : List Member). of_tally t (tally_of bands ms)) m.members in
          omega (arith, same, replacement_less y, weighted_less y (y.add_on - y.uncovered))

-- ---- financing sets

min_more : (a b c d : ℕ) → a ≤ c → b ≤ d → min a b ≤ min c d
min_more a b c d h k = omega arith

last_same : {xs ys : List FinancingTrade} → Pairs MoreTrade xs ys → last_day xs ≡ last_day ys
last_same Pairs.none = refl
last_same (Pairs.more r t) = rw (r.days, last_same t)

module _ (f : FinancingTrade → ℕ) (same : (s t : FinancingTrade) → MoreTrade s t → f s ≡ f t) where
  on_day_more : (day : ℕ) (s t : FinancingTrade) → MoreTrade s t → on_day f day s ≤ on_day f day t
  on_day_more day s t m =
      rw (← same s t m, ← m.days)
      (in_more (s.net_settled && eqb s.days day) (t.net_settled && eqb s.days day) (f s) (both_kept s.net_settled t.net_settled _ _ m.net_settled (λ e. e)))

  total_on_day_more : (day : ℕ) {xs ys : List FinancingTrade} → Pairs MoreTrade xs ys → total (on_day f day) xs ≤ total (on_day f day) ys
  total_on_day_more day Pairs.none = omega arith
  total_on_day_more day (Pairs.more {a} {b} r t) = omega (arith, on_day_more day a b r, total_on_day_more day t)

  total_same : {xs ys : List FinancingTrade} → Pairs MoreTrade xs ys → total f xs ≡ total f ys
  total_same Pairs.none = refl
  total_same (Pairs.more {a} {b} r t) = rw (same a b r, total_same t)

cash_more : {xs ys : List FinancingTrade} → Pairs MoreTrade xs ys → cash_netted xs ≤ cash_netted ys
unfolding cash_netted
cash_more {xs} {ys} p =
    rw (← last_same p)
    (below_le (suc (last_day xs)) (netted_on xs) (netted_on ys)
    (λ d. min_more _ _ _ _
    (total_on_day_more (λ (t : FinancingTrade). t.receivable) (λ s t m. m.receivable) d p)
    (total_on_day_more (λ (t : FinancingTrade). t.payable) (λ s t m. m.payable) d p)))

-- over a set the excess is at most the sum of the trades'
excess_sums : (ts : List FinancingTrade) → total (λ (t : FinancingTrade). t.lent) ts - total (λ (t : FinancingTrade). t.received) ts ≤ total (λ (t : FinancingTrade). t.lent - t.received) ts
excess_sums [] = omega arith
excess_sums (t ∷ ts) = omega (arith, excess_sums ts)

module _ (s t : FinancingSet) (m : MoreFinancing s t) where
  excess_less : excess_of t ≤ excess_of s
  unfolding excess_of
  excess_less =
      rw (
        ← total_same (λ (x : FinancingTrade). x.lent) (λ a b r. r.lent) m.trades,
        ← total_same (λ (x : FinancingTrade). x.received) (λ a b r. r.received) m.trades,
        ← total_same (λ (x : FinancingTrade). x.lent - x.received) (λ a b r. rw (r.lent, r.received)) m.trades,
      )
      (lesser_kept s.netting t.netting _ _ m.netting (excess_sums s.trades))

  financing_less : financing_exposure t ≤ financing_exposure s
  financing_less =
      let lent = total_same (λ (x : FinancingTrade). x.lent) (λ a b r. r.lent) m.trades in
      let further = ap (λ (b : Bool). cond b (1000 * total (λ (x : FinancingTrade). x.lent) t.trades) 0) m.further in
      let same = ap (λ (n : ℕ). cond s.further (1000 * n) 0) lent in
      let assets = total_same (λ (x : FinancingTrade). x.asset - x.securities) (λ a b r. rw (r.asset, r.securities)) m.trades in
      omega (arith, cash_more m.trades, excess_less)

-- ---- items and books

item_less : (bands : Bands) (i j : Item) → MoreItem i j → exposure_of bands j ≤ exposure_of bands i
item_less bands i j (MoreItem.of_assets {a} {b} m) = mul-le-mul_left 1000 (asset_less a b m)
item_less bands i j (MoreItem.for_derivatives {s} {t} m) = derivative_less s t m bands
item_less bands i j (MoreItem.for_financing {s} {t} m) = financing_less s t m
item_less bands i j MoreItem.for_off_balance = omega arith

pub exposure_less : (bands : Bands) {ps qs : List Placed} → Pairs MorePlaced ps qs → sum_over (exposure_of bands) qs ≤ sum_over (exposure_of bands) ps
exposure_less bands p = pairs_total _ _ (λ a b r. item_less bands a.item b.item r.item) p
