-- The settings counted one after the other. Assumes nothing.
use Prim.Native.Nat.{ℕ, zero, suc, ◌+◌, ◌≤◌, ◌<◌, ◌^◌}
use mathlib.Core.Path.{◌≡◌, refl, ◌∙◌, ap}
use mathlib.Core.Bool.{Bool, true, false, cond}
use native.Mathlib.Omega.{arith}
use native.Mathlib.Numerals.{add-one}
use lib.Dec.{eqb}
use lib.IntN.{pos}
use Rattle.rules.specs.Weigh.{sum_below}
use Rattle.rules.specs.Ratio.{tier1_of, verdict_of}
use Rattle.other_marks.specs.Marked.{settings}
use Rattle.settings.specs.declared.exposure.Pieces.{Pieces}
use Rattle.settings.specs.Settings.{Counted, leading, how_many, counts_of}
use Rattle.settings.specs.Pieces.{exposed_by, verdict_by, AllFit}

module _ (verdicts : ℕ → ℕ) (verdict : ℕ) where
  -- no more than there are
  pub leading_within : (n : ℕ) → leading verdicts verdict n ≤ n
  unfolding sum_below
  leading_within zero = omega arith
  leading_within (suc n) = go (eqb (verdicts n) verdict) (leading_within n)
    where
      go : (b : Bool) → leading verdicts verdict n ≤ n → cond b 1 0 + leading verdicts verdict n ≤ suc n
      go true h = omega arith
      go false h = omega arith

  -- one setting more
  pub leading_next : (m count : ℕ) → count ≡ leading verdicts verdict m → {v x : ℕ} → v ≡ verdicts m → x ≡ cond (eqb v verdict) 1 0 → count + x ≡ leading verdicts verdict (m + 1)
  unfolding sum_below
  leading_next m count q vq xq = rw (add-one m, ← vq) (omega (arith, q, xq))

-- ---- all three at once

pub record Counting (verdicts : ℕ → ℕ) (a b c m : ℕ) : Type 0 where
  pub met : a ≡ leading verdicts 0 m
  pub missed : b ≡ leading verdicts 1 m
  pub none : c ≡ leading verdicts 2 m
  pub within : m ≤ settings

pub counting_begins : (verdicts : ℕ → ℕ) → Counting verdicts 0 0 0 0
unfolding sum_below
counting_begins verdicts = record { met = refl; missed = refl; none = refl; within = omega arith }

module _ (verdicts : ℕ → ℕ) (met missed none m : ℕ) (c : Counting verdicts met missed none m) where
  pub few : (met ≤ settings) × ((missed ≤ settings) × (none ≤ settings))
  few = (
    omega (arith, c.met, c.within, leading_within verdicts 0 m),
    (omega (arith, c.missed, c.within, leading_within verdicts 1 m), omega (arith, c.none, c.within, leading_within verdicts 2 m)),
  )

  -- one setting more, by its verdict
  pub counting_on : m < settings → (x y z : ℕ) → x ≡ cond (eqb (verdicts m) 0) 1 0 → y ≡ cond (eqb (verdicts m) 1) 1 0 → z ≡ cond (eqb (verdicts m) 2) 1 0
      → Counting verdicts (met + x) (missed + y) (none + z) (m + 1)
  counting_on l x y z xq yq zq = record {
    met = leading_next verdicts 0 m met c.met refl xq;
    missed = leading_next verdicts 1 m missed c.missed refl yq;
    none = leading_next verdicts 2 m none c.none refl zq;
    within = omega arith;
  }

  pub counting_met : m < settings → 0 ≡ verdicts m → Counting verdicts (met + 1) missed none (m + 1)
  counting_met l v = let r = counting_on l 1 0 0 (rw (← v) refl) (rw (← v) refl) (rw (← v) refl) in record { met = r.met; missed = omega (arith, r.missed); none = omega (arith, r.none); within = r.within }

  pub counting_missed : m < settings → 1 ≡ verdicts m → Counting verdicts met (missed + 1) none (m + 1)
  counting_missed l v = let r = counting_on l 0 1 0 (rw (← v) refl) (rw (← v) refl) (rw (← v) refl) in record { met = omega (arith, r.met); missed = r.missed; none = omega (arith, r.none); within = r.within }

  pub counting_none : m < settings → 2 ≡ verdicts m → Counting verdicts met missed (none + 1) (m + 1)
  counting_none l v = let r = counting_on l 0 0 1 (rw (← v) refl) (rw (← v) refl) (rw (← v) refl) in record { met = omega (arith, r.met); missed = omega (arith, r.missed); none = r.none; within = r.within }

  pub counting_over : settings ≤ m → ◌≡◌ {A = Counted} (record { number = 0; place = 0; met = met; missed = missed; no_exposure = none }) (counts_of verdicts)
  unfolding how_many
  counting_over h =
      let all : m ≡ settings = omega (arith, c.within) in
      rw (c.met, c.missed, c.none, all) refl

-- ---- a verdict

pub verdict_is : (p : Pieces) (others gain loss m : ℕ) {e v : ℕ} → e ≡ exposed_by p m → v ≡ verdict_of (tier1_of gain loss) (pos (others + e)) → v ≡ verdict_by p others gain loss m
verdict_is p others gain loss m eq vq = vq ∙ ap (λ (x : ℕ). verdict_of (tier1_of gain loss) (pos (others + x))) eq

pub sum_fits : (p : Pieces) (others m : ℕ) → AllFit p others → m < settings → {e : ℕ} → e ≡ exposed_by p m → others + e ≤ 2 ^ 62
sum_fits p others m f l eq = omega (arith, f.exposure m l, eq)
