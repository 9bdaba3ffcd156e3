-- The law of draws: they settle exactly where each fits and for each entry their sum is there, and leave each entry less its sum.
-- Assumes nothing.
use Prim.Native.Nat.{ℕ, ◌-◌, ◌≤◌}
use mathlib.Core.Path.{◌≡◌, refl, sym, ◌∙◌, ap}
use mathlib.Core.Bool.{not, ◌||◌}
use mathlib.Core.List.{List, [], ◌∷◌}
use mathlib.Core.Logic.Iff
use mathlib.Core.Logic.{◌↔◌}
use native.Mathlib.Omega.{arith}
use native.Mathlib.Decide.{ℕ_discrete}
use borrow.Author.Tests.{ltb-false, eqb-true, not-false, le-ltb, lt-leb, eq-eqb, ne_eqb}
use lib.Dec.{eqb, ltb}
use lib.ListN.{length, get_or}
use Rattle.rules.specs.declared.Draw.{Draw}
use Rattle.rules.specs.declared.Entry.{Entry}
use Rattle.rules.specs.Faults.{cause}
use Rattle.rules.specs.Register.{blank, unfit_for, draw_fault, drawn, settle}
use Rattle.rules.proofs.Lists.{Every, every_map, or_left, or_right}
use Rattle.laws.proofs.Valid.{cause_none}
use Rattle.laws.proofs.Each.{every_first}
use Rattle.laws.proofs.Settling.{draw_fits, settle_one, settle_none}
use Rattle.covers.specs.Claims.{FitsIn, drawn_at, drawn_over, AllFit, less, SettlesBySums}
use Rattle.covers.proofs.Less.{less_length, less_at, less_none, less_twice, drawn_is_less}

-- ---- one draw: without a fault exactly where it fits and its amount is there

abbrev named : List Entry → Draw → Entry
named entries d = get_or entries d.protection blank

faultless_fits : (entries : List Entry) (d : Draw) → draw_fault entries d ≡ 0 → FitsIn entries d
unfolding draw_fault unfit_for
faultless_fits entries d z =
    let e = named entries d in
    let other = not (eqb e.entity d.entity) in
    let senior = ltb e.rank d.rank in
    let brief = ltb e.days d.days in
    let none = (cause_none 11 _ _ (cause_none 10 _ _ z).1).0 in
    let two = or_left (other || senior) brief none in
    let f = draw_fits entries d z in (
      record {
        below = f.below;
        same = eqb-true _ _ (not-false _ (or_left other senior two));
        junior = omega (arith, ltb-false e.rank d.rank (or_right other senior two));
        long = omega (arith, ltb-false e.days d.days (or_right (other || senior) brief none));
      },
      f.within,
    )

fits_faultless : (entries : List Entry) (d : Draw) → FitsIn entries d → d.amount ≤ (named entries d).left → draw_fault entries d ≡ 0
unfolding draw_fault unfit_for cause
fits_faultless entries d f h =
    let e = named entries d in
    rw (
      lt-leb (length entries) d.protection f.0.below,
      eq-eqb e.entity d.entity f.0.same,
      le-ltb e.rank d.rank (omega (arith, f.0.junior)),
      le-ltb e.days d.days (omega (arith, f.0.long)),
      le-ltb e.left d.amount h,
      le-ltb d.room d.amount f.1,
    )

-- entries less amounts are fitted by the same draws
fits_less : (entries : List Entry) (f : ℕ → ℕ) (d : Draw) → FitsIn entries d ↔ FitsIn (less entries f) d
fits_less entries f d =
    rw (less_at entries f d.protection, less_length entries f)
    (Iff.and (λ x. record { below = x.below; same = x.same; junior = x.junior; long = x.long }, λ x. record { below = x.below; same = x.same; junior = x.junior; long = x.long }) Iff.rfl)

-- ---- a first draw, and the others after it

module _ (entries : List Entry) (d : Draw) (ds : List Draw) where
  -- what it takes, by the place
  abbrev taken : ℕ → ℕ
  taken i = drawn_at i d

  taken_named : taken d.protection ≡ d.amount
  taken_named = rw (eq-eqb d.protection d.protection refl)

  left_at : (i : ℕ) → (get_or (less entries taken) i blank).left ≡ (get_or entries i blank).left - taken i
  left_at i = ap (λ (e : Entry). e.left) (less_at entries taken i)

  taken_within : d.amount ≤ (named entries d).left → (i : ℕ) → taken i ≤ (get_or entries i blank).left
  taken_within h i = go (ℕ_discrete d.protection i)
    where
      go : Dec (d.protection ≡ i) → taken i ≤ (get_or entries i blank).left
      go (yes q) = rw (← q, taken_named) h
      go (no q) = rw (ne_eqb d.protection i q) (omega arith)

  -- where all fit, the first has no fault and the others fit what it leaves; and back
  fit_after : AllFit entries (d ∷ ds) → (draw_fault entries d ≡ 0) × AllFit (drawn entries d) ds
  fit_after s =
      let f = (every_first d ds).0 s.each in (
        fits_faultless entries d f.0 (omega (arith, taken_named, s.enough d.protection f.0.0.below)),
        rw (drawn_is_less entries d) (record {
          each = every_map (λ e h. (fits_less entries taken e).0 h) f.1;
          enough = λ i h. omega (arith, left_at i, s.enough i (omega (arith, less_length entries taken)));
        }),
      )

  fit_before : draw_fault entries d ≡ 0 → AllFit (drawn entries d) ds → AllFit entries (d ∷ ds)
  fit_before z t =
      let s = rw (drawn_is_less entries d) at t in
      record {
        each = Every.more (faultless_fits entries d z) (every_map (λ e h. (fits_less entries taken e).1 h) s.each);
        enough = λ i h. omega (arith, taken_within (draw_fits entries d z).enough i, left_at i, s.enough i (omega (arith, less_length entries taken)));
      }

  -- what all leave, and how they settle
  less_after : less (drawn entries d) (drawn_over ds) ≡ less entries (drawn_over (d ∷ ds))
  less_after = rw (drawn_is_less entries d) (less_twice entries taken (drawn_over ds))

  settle_after : draw_fault entries d ≡ 0 → settle entries (d ∷ ds) ≡ settle (drawn entries d) ds
  unfolding settle
  settle_after z = rw z

-- ---- THE LAW OF DRAWS

-- they settle exactly where they all fit, and leave each entry less its sum
pub settle_iff : SettlesBySums
unfolding settle
settle_iff entries [] left =
    let same = less_none entries (λ i. 0) (λ i. refl) in (
      λ e. (record { each = Every.none; enough = λ i h. omega arith }, sym (settle_none entries left e) ∙ sym same),
      λ p. rw (p.1, same) refl,
    )
settle_iff entries (d ∷ ds) left =
    let rest = settle_iff (drawn entries d) ds left in (
      λ e.
          let s = settle_one entries d ds left e in
          let r = rest.0 s.1 in (fit_before entries d ds s.0 r.0, r.1 ∙ less_after entries d ds),
      λ p.
          let f = fit_after entries d ds p.0 in
          settle_after entries d ds f.0 ∙ rest.1 (f.1, p.1 ∙ sym (less_after entries d ds)),
    )
