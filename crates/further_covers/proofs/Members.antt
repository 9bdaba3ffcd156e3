-- What further cover does to the members of a set: values, add-ons and written notional stay, and of the add-ons no less stays in, at most 100
-- thousandths more for each unit of cover. Assumes nothing.
use Prim.Native.Nat.{ℕ, ◌+◌, ◌-◌, ◌*◌, ◌≤◌}
use mathlib.Core.Path.{◌≡◌, refl, ap}
use mathlib.Core.List.{List, []}
use native.Mathlib.Omega.{arith}
use Rattle.rules.specs.declared.Bands.{Bands}
use Rattle.rules.specs.Book.{WrittenCredit, Member, written, total}
use Rattle.rules.specs.Weigh.{written_add_on, covered_of, gain_in, loss_in, add_on_in, uncovered_in, written_in, covers_in}
use Rattle.rules.proofs.Lists.{Pairs}
use Rattle.rules.proofs.Kept.{kept_mono, kept_grows}
use Rattle.laws.proofs.FactorBounds.{written_add_on_lem}
use Rattle.cuts.specs.Further.{covered_by, MemberByCredits}
use Rattle.further_covers.specs.Claims.{CoveredNoLess}

-- `of` and `by` take what is measured of a member to its sum in the first and in the second
pub record Moves (bands : Bands) (of by : (Member → ℕ) → ℕ) : Type 0 where
  pub gains : of gain_in ≡ by gain_in
  pub losses : of loss_in ≡ by loss_in
  pub add_on : of (add_on_in bands) ≡ by (add_on_in bands)
  pub written : of written_in ≡ by written_in
  pub covers : of covers_in ≤ by covers_in
  pub within : of uncovered_in ≤ of (add_on_in bands)
  pub less : by uncovered_in ≤ of uncovered_in
  pub rate : of uncovered_in + 100 * of covers_in ≤ by uncovered_in + 100 * by covers_in

-- the add-on of a written credit does not hang on its covers
add_on_alike : (w v : WrittenCredit) → covered_by [] w ≡ covered_by [] v → written_add_on w ≡ written_add_on v
unfolding written_add_on
add_on_alike w v e = ap written_add_on e

module _ (bands : Bands) where
  -- the same in both
  unmoved : (of : (Member → ℕ) → ℕ) → of uncovered_in ≤ of (add_on_in bands) → Moves bands of of
  unmoved of h = record { gains = refl; losses = refl; add_on = refl; written = refl; covers = omega arith; within = h; less = omega arith; rate = omega arith }

  -- a written credit
  credit_moves : (w v : WrittenCredit) → CoveredNoLess w v → Moves bands (λ (f : Member → ℕ). f (written w)) (λ (f : Member → ℕ). f (written v))
  credit_moves w v r = record {
    gains = ap (λ (u : WrittenCredit). u.gain) r.alike;
    losses = ap (λ (u : WrittenCredit). u.loss) r.alike;
    add_on = a;
    written = ap (λ (u : WrittenCredit). u.notional - u.loss_taken) r.alike;
    covers = omega (arith, r.covered);
    within = omega arith;
    less = rw (← a, ← n) (omega (arith, kept_mono (written_add_on w) w.notional (covered_of w) (covered_of v) r.covered));
    rate = rw (← a, ← n) (omega (arith, kept_grows (written_add_on w) w.notional 100 (covered_of w) (covered_of v) (written_add_on_lem w) r.covered, r.covered));
  }
    where
      a : written_add_on w ≡ written_add_on v
      a = add_on_alike w v r.alike

      n : w.notional ≡ v.notional
      n = ap (λ (u : WrittenCredit). u.notional) r.alike

  -- a member
  member_moves : (m n : Member) → MemberByCredits CoveredNoLess m n → Moves bands (λ (f : Member → ℕ). f m) (λ (f : Member → ℕ). f n)
  member_moves m n MemberByCredits.of_trade = unmoved _ (omega arith)
  member_moves m n (MemberByCredits.of_credit {w} {v} r) = credit_moves w v r
  member_moves m n MemberByCredits.of_basket = unmoved _ (omega arith)

  -- all members
  pub members_move : {ms ns : List Member} → Pairs (MemberByCredits CoveredNoLess) ms ns → Moves bands (λ (f : Member → ℕ). total f ms) (λ (f : Member → ℕ). total f ns)
  members_move Pairs.none = unmoved _ (omega arith)
  members_move (Pairs.more {a} {b} r p) =
      let h = member_moves a b r in
      let t = members_move p in
      record {
        gains = omega (arith, h.gains, t.gains);
        losses = omega (arith, h.losses, t.losses);
        add_on = omega (arith, h.add_on, t.add_on);
        written = omega (arith, h.written, t.written);
        covers = omega (arith, h.covers, t.covers);
        within = omega (arith, h.within, t.within);
        less = omega (arith, h.less, t.less);
        rate = omega (arith, h.rate, t.rate);
      }
