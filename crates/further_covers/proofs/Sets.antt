-- A derivative set, and the same with further cover: by how much its exposure falls. Assumes nothing.
use Prim.Native.Nat.{ℕ, ◌+◌, ◌-◌, ◌*◌, ◌≤◌}
use mathlib.Core.Path.{◌≡◌, refl, sym, ◌∙◌, ap}
use mathlib.Core.Bool.{Bool, true, false, cond}
use native.Mathlib.Omega.{arith}
use Rattle.rules.specs.declared.Bands.{Bands}
use Rattle.rules.specs.Book.{Member, DerivativeSet, total}
use Rattle.rules.specs.Weighted.{weighted_of}
use Rattle.rules.specs.Weigh.{Tally, tally_of, net_of, margin_offsets, replacement_of, weighted_in, written_in, covers_in}
use Rattle.rules.specs.Rows.{tally_in}
use Rattle.rules.proofs.Weighted.{mono_x, grows_less}
use Rattle.laws.specs.Exposure.{derivative_exposure}
use Rattle.cuts.specs.Further.{memberless, SetByCredits}
use Rattle.further_covers.specs.Claims.{Falls, CoveredNoLess}
use Rattle.further_covers.proofs.Members.{Moves, members_move}

-- ---- a set's exposure by its marks and margins, its tally, and its written notional less loss and covers

abbrev exposure_by : DerivativeSet → Tally → (written covers : ℕ) → ℕ
exposure_by s y written covers =
    cond s.exempt 0 (1000 * replacement_of s y + weighted_in s y (y.add_on - y.uncovered))
    + 1000 * s.posted
    + cond (margin_offsets s) 0 (1000 * s.paid)
    + 1000 * (written - covers)

-- of the members only the tally and the two sums count
by_marks : (bands : Bands) (s : DerivativeSet) → derivative_exposure bands s ≡ exposure_by (memberless s) (tally_in bands s) (total written_in s.members) (total covers_in s.members)
unfolding replacement_of weighted_in
by_marks bands s = refl

-- ---- one set, and two tallies with the same values

module _ (s : DerivativeSet) (y z : Tally) (g : y.gains ≡ z.gains) (l : y.losses ≡ z.losses) where
  -- replacement hangs on the values alone
  replacement_same : replacement_of s y ≡ replacement_of s z
  unfolding replacement_of
  replacement_same = rw (g, l)

  -- netted or not, a weighted add-on grows with the gross one, and by no more than it
  weighted_grows : (x more : ℕ) → x ≤ more → (weighted_in s y x ≤ weighted_in s z more) × (weighted_in s z more ≤ weighted_in s y x + (more - x))
  unfolding weighted_in
  weighted_grows x more h = rw (← g, ← l) (go s.netting)
    where
      e : x + (more - x) ≡ more
      e = omega arith

      netted : weighted_of more y.gains (net_of y) ≤ weighted_of x y.gains (net_of y) + (more - x)
      netted = rw e at (grows_less x (more - x) y.gains (net_of y) (omega arith))

      go : (b : Bool)
          → (cond b (weighted_of x y.gains (net_of y)) x ≤ cond b (weighted_of more y.gains (net_of y)) more)
          × (cond b (weighted_of more y.gains (net_of y)) more ≤ cond b (weighted_of x y.gains (net_of y)) x + (more - x))
      go true = (mono_x x more y.gains (net_of y) h, netted)
      go false = (h, omega arith)

-- ---- the law

-- what grows by so much at most does so where a mark takes it out, too
unless : (b : Bool) (x y d : ℕ) → x ≤ y → y ≤ x + d → (cond b 0 x ≤ cond b 0 y) × (cond b 0 y ≤ cond b 0 x + d)
unless true x y d h k = (omega arith, omega arith)
unless false x y d h k = (h, k)

-- A SET with further cover that is within: of its add-on at most 100 thousandths more stay in for each unit, and 1,000 less are uncovered
pub set_falls : (bands : Bands) (s t : DerivativeSet) → SetByCredits CoveredNoLess s t → total covers_in t.members ≤ total written_in t.members
    → Falls (derivative_exposure bands s) (derivative_exposure bands t) (total covers_in t.members - total covers_in s.members)
unfolding tally_of
set_falls bands s t r within =
    let m : Moves bands (λ (f : Member → ℕ). total f s.members) (λ (f : Member → ℕ). total f t.members) = members_move bands r.members in
    let u = memberless s in
    let y = tally_in bands s in
    let z = tally_in bands t in
    let k = weighted_grows u y z m.gains m.losses (y.add_on - y.uncovered) (z.add_on - z.uncovered) (omega (arith, m.add_on, m.less)) in
    let e = replacement_same u y z m.gains m.losses in
    let b = unless s.exempt (1000 * replacement_of u y + weighted_in u y (y.add_on - y.uncovered)) (1000 * replacement_of u z + weighted_in u z (z.add_on - z.uncovered))
    (100 * (total covers_in t.members - total covers_in s.members))
    (omega (arith, e, k.0)) (omega (arith, e, k.1, m.rate, m.add_on, m.within, m.covers)) in
    let f : derivative_exposure bands t ≡ exposure_by u z (total written_in t.members) (total covers_in t.members) = by_marks bands t ∙ ap (λ (x : DerivativeSet). exposure_by x z (total written_in t.members) (total covers_in t.members)) (sym r.alike) in
    rw (by_marks bands s, f)
    (record { at_least = omega (arith, b.0, b.1, within, m.written, m.covers); at_most = omega (arith, b.0, b.1, within, m.written, m.covers) })
