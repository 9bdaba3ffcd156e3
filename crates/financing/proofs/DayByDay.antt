-- Cash netted in one pass is the cash netted of all days, where days never fall. Assumes nothing.
use Prim.Native.Nat.{ℕ, zero, suc, ◌+◌, ◌≤◌, ◌<◌, min}
use mathlib.Core.Path.{◌≡◌, refl, ◌∙◌, ap, ap₂}
use mathlib.Core.Bool.{Bool, true, false, cond, ◌&&◌}
use mathlib.Core.List.{List, [], ◌∷◌}
use native.Mathlib.Omega.{arith}
use borrow.Author.Tests.{eqb-true, eqb-false, eq-eqb, ne_eqb}
use lib.Dec.{eqb}
use Rattle.rules.specs.Book.{FinancingTrade, total}
use Rattle.rules.specs.Weigh.{sum_below, on_day, netted_on, last_day, cash_netted}
use Rattle.financing.specs.Netting.{own_marked, netted_from, NeverFall}

-- ---- sums below a number

below_same : (n : ℕ) (f g : ℕ → ℕ) → ((d : ℕ) → f d ≡ g d) → sum_below n f ≡ sum_below n g
unfolding sum_below
below_same zero f g h = refl
below_same (suc n) f g h = omega (arith, h n, below_same n f g h)

-- nothing but on one day
abbrev only : (day x : ℕ) → ℕ → ℕ
only day x d = cond (eqb day d) x 0

only_there : (day x d : ℕ) → day ≡ d → only day x d ≡ x
only_there day x d e = simp (eq-eqb day d e)

only_else : (day x d : ℕ) → (day ≡ d → ⊥) → only day x d ≡ 0
only_else day x d h = simp (ne_eqb day d h)

below_before : (n day x : ℕ) (g : ℕ → ℕ) → n ≤ day → sum_below n (λ (d : ℕ). only day x d + g d) ≡ sum_below n g
unfolding sum_below
below_before zero day x g h = refl
below_before (suc n) day x g h = omega (arith, below_before n day x g (omega arith), only_else day x n (λ e. omega arith))

-- one day taken out of a sum
below_once : (n day x : ℕ) (g : ℕ → ℕ) → day < n → sum_below n (λ (d : ℕ). only day x d + g d) ≡ x + sum_below n g
unfolding sum_below
below_once zero day x g h = let z : ⊥ = omega arith in absurd z
below_once (suc n) day x g h = go (eqb day n) refl (λ k. below_once n day x g k)
  where
    go : (b : Bool) → eqb day n ≡ b → (day < n → sum_below n (λ (d : ℕ). only day x d + g d) ≡ x + sum_below n g)
        → only day x n + g n + sum_below n (λ (d : ℕ). only day x d + g d) ≡ x + (g n + sum_below n g)
    go true e r = omega (arith, only_there day x n (eqb-true day n e), below_before n day x g (omega (arith, eqb-true day n e)))
    go false e r =
        let f : day ≡ n → ⊥ = eqb-false day n e in
        let k : day < n = omega (arith, f) in
        omega (arith, only_else day x n f, r k)

below_none : (n : ℕ) → sum_below n (λ (d : ℕ). 0) ≡ 0
unfolding sum_below
below_none zero = refl
below_none (suc n) = omega (arith, below_none n)

-- ---- one day, by a sum that is carried along and the trades that are left

module _ (f : FinancingTrade → ℕ) where
  -- of the sum x that a day has so far
  abbrev on_it : (day x : ℕ) → List FinancingTrade → ℕ → ℕ
  on_it day x ts d = only day x d + total (on_day f d) ts

  -- what a trade has on a day, by its own day
  own_day : (t : FinancingTrade) (d : ℕ) → on_day f d t ≡ only t.days (own_marked f t) d
  own_day t d = go t.net_settled (eqb t.days d)
    where
      go : (m b : Bool) → cond (m && b) (f t) 0 ≡ cond b (cond m (f t) 0) 0
      go true true = refl
      go true false = refl
      go false true = refl
      go false false = refl

  -- a day before all trades has nothing of them
  none_before : (day d : ℕ) (ts : List FinancingTrade) → NeverFall day ts → d < day → total (on_day f d) ts ≡ 0
  none_before day d [] h l = refl
  none_before day d (t ∷ ts) h l =
      omega (arith, own_day t d, only_else t.days (own_marked f t) d (λ e. omega (arith, h.0)), none_before t.days d ts h.1 (omega (arith, h.0)))

  -- a trade of the same day
  same_day : (day x : ℕ) (t : FinancingTrade) (ts : List FinancingTrade) (d : ℕ) → t.days ≡ day
      → on_it day (x + own_marked f t) ts d ≡ on_it day x (t ∷ ts) d
  same_day day x t ts d e =
      let q : only t.days (own_marked f t) d ≡ only day (own_marked f t) d = ap (λ (k : ℕ). only k (own_marked f t) d) e in
      omega (arith, own_day t d, q, split (eqb day d) x (own_marked f t))
    where
      split : (b : Bool) (x y : ℕ) → cond b (x + y) 0 ≡ cond b x 0 + cond b y 0
      split true x y = refl
      split false x y = refl

-- ---- all days

abbrev both_on : (day receivable payable : ℕ) → List FinancingTrade → ℕ → ℕ
both_on day receivable payable ts d =
    min (on_it (λ (x : FinancingTrade). x.receivable) day receivable ts d) (on_it (λ (x : FinancingTrade). x.payable) day payable ts d)

-- a trade of a later day closes the day
later_day : (day receivable payable : ℕ) (t : FinancingTrade) (ts : List FinancingTrade) → day < t.days → NeverFall t.days ts → (d : ℕ)
    → both_on day receivable payable (t ∷ ts) d
    ≡ only day (min receivable payable) d
    + both_on t.days (own_marked (λ (x : FinancingTrade). x.receivable) t) (own_marked (λ (x : FinancingTrade). x.payable) t) ts d
later_day day receivable payable t ts l h d = go (eqb day d) refl
  where
    go : (b : Bool) → eqb day d ≡ b
        → both_on day receivable payable (t ∷ ts) d
        ≡ only day (min receivable payable) d
        + both_on t.days (own_marked (λ (x : FinancingTrade). x.receivable) t) (own_marked (λ (x : FinancingTrade). x.payable) t) ts d
    go true e =
        let q : day ≡ d = eqb-true day d e in
        omega (
          arith,
          only_there day receivable d q,
          only_there day payable d q,
          only_there day (min receivable payable) d q,
          own_day (λ (x : FinancingTrade). x.receivable) t d,
          own_day (λ (x : FinancingTrade). x.payable) t d,
          only_else t.days (own_marked (λ (x : FinancingTrade). x.receivable) t) d (λ k. omega arith),
          only_else t.days (own_marked (λ (x : FinancingTrade). x.payable) t) d (λ k. omega arith),
          none_before (λ (x : FinancingTrade). x.receivable) t.days d ts h (omega arith),
          none_before (λ (x : FinancingTrade). x.payable) t.days d ts h (omega arith),
        )
    go false e =
        let q : day ≡ d → ⊥ = eqb-false day d e in
        omega (
          arith,
          only_else day receivable d q,
          only_else day payable d q,
          only_else day (min receivable payable) d q,
          own_day (λ (x : FinancingTrade). x.receivable) t d,
          own_day (λ (x : FinancingTrade). x.payable) t d,
        )

-- the days beyond the last have nothing, so that any bound above it serves
netted_below : (n closed day receivable payable : ℕ) (ts : List FinancingTrade) → NeverFall day ts → day < n → last_day ts < n
    → netted_from closed day receivable payable ts ≡ closed + sum_below n (both_on day receivable payable ts)
unfolding netted_from
netted_below n closed day receivable payable [] h l m =
    omega (
      arith,
      below_same n (both_on day receivable payable []) (λ (d : ℕ). only day (min receivable payable) d + 0) (λ d. none_left d),
      below_once n day (min receivable payable) (λ (d : ℕ). 0) l,
      below_none n,
    )
  where
    none_left : (d : ℕ) → both_on day receivable payable [] d ≡ only day (min receivable payable) d + 0
    none_left d = go (eqb day d)
      where
        go : (b : Bool) → min (cond b receivable 0 + 0) (cond b payable 0 + 0) ≡ cond b (min receivable payable) 0 + 0
        go true = omega arith
        go false = omega arith
netted_below n closed day receivable payable (t ∷ ts) h l m =
    go (eqb t.days day) refl
    (λ r p k. netted_below n closed day r p ts k l (omega arith))
    (λ c r p k. netted_below n c t.days r p ts k (omega arith) (omega arith))
  where
    owed : ℕ
    owed = own_marked (λ (x : FinancingTrade). x.receivable) t

    owing : ℕ
    owing = own_marked (λ (x : FinancingTrade). x.payable) t

    go : (b : Bool) → eqb t.days day ≡ b
        → ((r p : ℕ) → NeverFall day ts → netted_from closed day r p ts ≡ closed + sum_below n (both_on day r p ts))
        → ((c r p : ℕ) → NeverFall t.days ts → netted_from c t.days r p ts ≡ c + sum_below n (both_on t.days r p ts))
        → cond b (netted_from closed day (receivable + owed) (payable + owing) ts) (netted_from (closed + min receivable payable) t.days owed owing ts)
        ≡ closed + sum_below n (both_on day receivable payable (t ∷ ts))
    go true e same later =
        let q : t.days ≡ day = eqb-true t.days day e in
        let f : NeverFall day ts = rw q at h.1 in
        omega (
          arith,
          same (receivable + owed) (payable + owing) f,
          below_same n (both_on day (receivable + owed) (payable + owing) ts) (both_on day receivable payable (t ∷ ts))
              (λ d. ap₂ (λ (a b : ℕ). min a b)
              (same_day (λ (x : FinancingTrade). x.receivable) day receivable t ts d q)
              (same_day (λ (x : FinancingTrade). x.payable) day payable t ts d q)),
        )
    go false e same later =
        let q : day < t.days = omega (arith, h.0, eqb-false t.days day e) in
        omega (
          arith,
          later (closed + min receivable payable) owed owing h.1,
          below_same n (both_on day receivable payable (t ∷ ts)) (λ (d : ℕ). only day (min receivable payable) d + both_on t.days owed owing ts d)
              (later_day day receivable payable t ts q h.1),
          below_once n day (min receivable payable) (both_on t.days owed owing ts) l,
        )

-- from nothing on
pub day_by_day : (ts : List FinancingTrade) → NeverFall 0 ts → netted_from 0 0 0 0 ts ≡ cash_netted ts
unfolding cash_netted
day_by_day ts h =
    netted_below (suc (last_day ts)) 0 0 0 0 ts h (omega arith) (omega arith)
    ∙ omega (arith, below_same (suc (last_day ts)) (both_on 0 0 0 ts) (netted_on ts) (λ d. plain d))
  where
    plain : (d : ℕ) → both_on 0 0 0 ts d ≡ netted_on ts d
    plain d = go (eqb 0 d) (total (on_day (λ (x : FinancingTrade). x.receivable) d) ts) (total (on_day (λ (x : FinancingTrade). x.payable) d) ts)
      where
        go : (b : Bool) (r p : ℕ) → min (cond b 0 0 + r) (cond b 0 0 + p) ≡ min r p
        go true r p = omega arith
        go false r p = omega arith
