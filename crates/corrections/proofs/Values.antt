-- The value of a trade, a written credit or a basket, in a set without the netting mark: it moves the exposure of its set by at most 1,000 thousandths
-- for each unit. Assumes nothing.
use Prim.Native.Nat.{ℕ, ◌+◌, ◌-◌, ◌*◌, ◌≤◌}
use mathlib.Core.Path.{◌≡◌, refl, sym, ◌∙◌, ap}
use mathlib.Core.Bool.{Bool, true, false, cond}
use native.Mathlib.Omega.{arith}
use native.Mathlib.Nat.{mul-le-mul_right}
use Rattle.rules.specs.declared.Bands.{Bands}
use Rattle.rules.specs.Book.{Member, trade, written, basket, DerivativeSet, total}
use Rattle.rules.specs.Weigh.{tally_of, trade_add_on, written_add_on, basket_add_on, gain_in, add_on_in, uncovered_in, margin_offsets, replacement_of, weighted_in, written_in, covers_in}
use Rattle.rules.specs.Rows.{tally_in, kept_weighted}
use Rattle.laws.specs.Exposure.{derivative_exposure}
use Rattle.cuts.specs.Further.{memberless}
use Rattle.corrections.specs.Roles.{value}
use Rattle.corrections.specs.Claims.{Ceiling}
use Rattle.corrections.proofs.Apart.{gap, OneOf, one_apart, one_same}

-- ---- a member of another value

-- a member of value 0
abbrev pub valueless : Member → Member
valueless (trade t) = trade (record {
  class = t.class;
  payments = t.payments;
  resets = t.resets;
  qualifying = t.qualifying;
  gain = 0;
  loss = 0;
  notional = t.notional;
  days = t.days;
  reset_days = t.reset_days;
})
valueless (written w) = written (record {
  entity = w.entity;
  rank = w.rank;
  qualifying = w.qualifying;
  total_return = w.total_return;
  close_out = w.close_out;
  gain = 0;
  loss = 0;
  notional = w.notional;
  loss_taken = w.loss_taken;
  days = w.days;
  premiums = w.premiums;
  covers = w.covers;
})
valueless (basket b) = basket (record { nth = b.nth; gain = 0; loss = 0; notional = b.notional; grades = b.grades })

-- equal but for the value, the gains by at most d units
pub record Revalued (d : ℕ) (m n : Member) : Type 0 where
  pub alike : valueless m ≡ valueless n
  pub gains : gap (gain_in m) (gain_in n) ≤ d

-- equal but for one such member
pub record RevaluedSet (d : ℕ) (s t : DerivativeSet) : Type 0 where
  pub alike : memberless s ≡ memberless t
  pub members : OneOf (Revalued d) s.members t.members

-- the add-on, what does not stay in of it, the written notional and the covers do not look at the value
value_keeps : (bands : Bands) (m : Member)
    → (add_on_in bands (valueless m) ≡ add_on_in bands m) × (uncovered_in (valueless m) ≡ uncovered_in m) × (written_in (valueless m) ≡ written_in m) × (covers_in (valueless m) ≡ covers_in m)
unfolding trade_add_on written_add_on basket_add_on
value_keeps bands (trade t) = (refl, refl, refl, refl)
value_keeps bands (written w) = (refl, refl, refl, refl)
value_keeps bands (basket b) = (refl, refl, refl, refl)

-- ---- a set without netting

-- what counts unless the client leg is exempt: replacement is the gains, and the add-on is not weighted
counted_gross : (bands : Bands) (s : DerivativeSet) → s.netting ≡ false
    → 1000 * replacement_of s (tally_in bands s) + kept_weighted bands s ≡ 1000 * total gain_in s.members + (total (add_on_in bands) s.members - total uncovered_in s.members)
unfolding tally_of replacement_of weighted_in
counted_gross bands s e = rw e

-- what moves by so much at most does so where a mark of both takes it out, too
unless : (a b : Bool) → a ≡ b → (x y d : ℕ) → gap x y ≤ d → gap (cond a 0 x) (cond b 0 y) ≤ d
unless a b e x y d h = rw (← e) (go a)
  where
    go : (a : Bool) → gap (cond a 0 x) (cond a 0 y) ≤ d
    go true = omega arith
    go false = h

-- a value that has a ceiling
not_netted : (netting : Bool) {ceiling : ℕ} → Ceiling (value netting) ceiling → (netting ≡ false) × (1000 ≤ ceiling)
not_netted netting Ceiling.of_value = (refl, omega arith)

module _ (bands : Bands) (d : ℕ) (s t : DerivativeSet) (r : RevaluedSet d s t) where
  same : (f : Member → ℕ) → ((m : Member) → f (valueless m) ≡ f m) → total f s.members ≡ total f t.members
  same f h = one_same f r.members (λ m n q. sym (h m) ∙ ap f q.alike ∙ h n)

  gains : gap (total gain_in s.members) (total gain_in t.members) ≤ d
  gains = one_apart gain_in r.members d (λ m n q. q.gains)

  abbrev counted : DerivativeSet → ℕ
  counted u = 1000 * replacement_of u (tally_in bands u) + kept_weighted bands u

  counted_apart : s.netting ≡ false → gap (counted s) (counted t) ≤ 1000 * d
  counted_apart gross =
      let mark : t.netting ≡ false = sym (ap (λ (u : DerivativeSet). u.netting) r.alike) ∙ gross in
      omega (arith, counted_gross bands s gross, counted_gross bands t mark, gains, same (add_on_in bands) (λ m. (value_keeps bands m).0), same uncovered_in (λ m. (value_keeps bands m).1))

  -- A SET: within that ceiling
  pub value_ceiling : {ceiling : ℕ} → Ceiling (value s.netting) ceiling → gap (derivative_exposure bands s) (derivative_exposure bands t) ≤ ceiling * d
  value_ceiling h =
      let n = not_netted s.netting h in
      let shown = unless s.exempt t.exempt (ap (λ (u : DerivativeSet). u.exempt) r.alike) (counted s) (counted t) (1000 * d) (counted_apart n.0) in
      let posted : s.posted ≡ t.posted = ap (λ (u : DerivativeSet). u.posted) r.alike in
      let paid = ap (λ (u : DerivativeSet). cond (margin_offsets u) 0 (1000 * u.paid)) r.alike in
      omega (arith, same written_in (λ m. (value_keeps bands m).2), same covers_in (λ m. (value_keeps bands m).3), mul-le-mul_right d n.1)
