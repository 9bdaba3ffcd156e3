-- Laws of a run, once for every kind of record: what holds of all its records, how far it reaches and how large a sum over it is, and
-- two runs side by side. Assumes nothing.
use Prim.Native.Nat.{ℕ, zero, suc, ◌+◌, ◌*◌, ◌≤◌, ◌<◌}
use mathlib.Core.Path.{◌≡◌, refl, ap}
use mathlib.Core.Bool.{Bool, true, false, cond}
use native.Mathlib.Omega.{arith}
use Rattle.rules.specs.Book.{total}
use Rattle.rules.specs.Run.{Turn, over, bad, some, Run, with_one, then_run, run_from, sound}
use Rattle.rules.proofs.Lists.{Every, Pairs}

-- ---- what holds of every record

module _ {A : Type 0} (P : A → Type 0) where
  abbrev pub TurnHas : Turn A → Type 0
  TurnHas over = Unit {0}
  TurnHas (bad number place) = Unit {0}
  TurnHas (some a number place) = P a

  then_has : (t : Turn A) → TurnHas t → (at : ℕ) (rest : ℕ → Run A) → ((next : ℕ) → Every P (rest next).records) → Every P (then_run t at rest).records
  then_has over h at rest r = Every.none
  then_has (bad number place) h at rest r = Every.none
  then_has (some a zero next) h at rest r = Every.more h (r next)
  then_has (some a (suc number) place) h at rest r = Every.more h Every.none

  pub every_run : (turn : ℕ → Turn A) → ((at : ℕ) → TurnHas (turn at)) → (k at : ℕ) → Every P (run_from turn k at).records
  unfolding run_from
  every_run turn h zero at = Every.none
  every_run turn h (suc k) at = then_has (turn at) (h at) at (run_from turn k) (λ next. every_run turn h k next)

-- ---- how far, and how large: f of each record is at most C for each of its words, of which there are n

module _ {A : Type 0} (n C : ℕ) (f : A → ℕ) where
  abbrev pub FineTurn : ℕ → Turn A → Type 0
  FineTurn at over = Unit {0}
  FineTurn at (bad number place) = (at ≤ place) × (place ≤ n)
  FineTurn at (some a number place) = (at < place) × (place ≤ n) × (f a + C * at ≤ C * place)

  pub record FineRun (at : ℕ) (r : Run A) : Type 0 where
    pub onward : at ≤ r.place
    pub within : r.place ≤ n
    pub small : total f r.records + C * at ≤ C * r.place

  fine_then : (at : ℕ) (t : Turn A) → at ≤ n → FineTurn at t → (rest : ℕ → Run A) → ((next : ℕ) → next ≤ n → FineRun next (rest next)) → FineRun at (then_run t at rest)
  fine_then at over h l rest r = record { onward = omega arith; within = h; small = omega arith }
  fine_then at (bad number place) h l rest r = record { onward = l.0; within = l.1; small = omega (arith, native.Mathlib.Nat.mul-le-mul_left C l.0) }
  fine_then at (some a zero next) h l rest r =
      let e = r next l.1 in
      record { onward = omega (arith, e.onward); within = e.within; small = omega (arith, e.small) }
  fine_then at (some a (suc number) place) h l rest r = record { onward = omega arith; within = l.1; small = omega arith }

  pub fine_run : (turn : ℕ → Turn A) → ((at : ℕ) → at ≤ n → FineTurn at (turn at)) → (k at : ℕ) → at ≤ n → FineRun at (run_from turn k at)
  unfolding run_from
  fine_run turn t zero at h = record { onward = omega arith; within = h; small = omega arith }
  fine_run turn t (suc k) at h = fine_then at (turn at) h (t at h) (run_from turn k) (λ next l. fine_run turn t k next l)

  -- the bound on the records decides nothing where it is large enough
  module _ (turn : ℕ → Turn A) (t : (at : ℕ) → at ≤ n → FineTurn at (turn at)) where
    enough_then : (at k m : ℕ) (x : Turn A) → FineTurn at x → ((next : ℕ) → next ≤ n → at < next → run_from turn k next ≡ run_from turn m next)
        → then_run x at (run_from turn k) ≡ then_run x at (run_from turn m)
    enough_then at k m over l r = refl
    enough_then at k m (bad number place) l r = refl
    enough_then at k m (some a zero next) l r = ap (with_one a) (r next l.1 l.0)
    enough_then at k m (some a (suc number) place) l r = refl

    enough : (k m at : ℕ) → at ≤ n → n < at + k → n < at + m → run_from turn k at ≡ run_from turn m at
    unfolding run_from
    enough zero m at h a b = let z : ⊥ = omega arith in absurd z
    enough (suc k) zero at h a b = let z : ⊥ = omega arith in absurd z
    enough (suc k) (suc m) at h a b = enough_then at k m (turn at) (t at h) (λ next l o. enough k m next l (omega arith) (omega arith))

    -- so a run goes on as it began
    pub run_on : (at : ℕ) → at ≤ n → run_from turn (suc n) at ≡ then_run (turn at) at (run_from turn (suc n))
    unfolding run_from
    run_on at h = enough_then at n (suc n) (turn at) (t at h) (λ next l o. enough n (suc n) next l (omega arith) (omega arith))

-- ---- two runs side by side

module _ {A : Type 0} (Rel : A → A → Type 0) where
  pub data Turns : Turn A → Turn A → Type 0 where
    overs : Turns over over
    bads : {number place : ℕ} → Turns (bad number place) (bad number place)
    somes : {a b : A} {number place : ℕ} → Rel a b → Turns (some a number place) (some b number place)

  pub record Both (r s : Run A) : Type 0 where
    pub records : Pairs Rel r.records s.records
    pub number : r.number ≡ s.number
    pub place : r.place ≡ s.place

  both_then : (at : ℕ) (t u : Turn A) → Turns t u → (r s : ℕ → Run A) → ((n : ℕ) → Both (r n) (s n)) → Both (then_run t at r) (then_run u at s)
  both_then at t u overs r s h = record { records = Pairs.none; number = refl; place = refl }
  both_then at t u bads r s h = record { records = Pairs.none; number = refl; place = refl }
  both_then at t u (somes {number = zero} {place} g) r s h = record { records = Pairs.more g (h place).records; number = (h place).number; place = (h place).place }
  both_then at t u (somes {number = suc m} g) r s h = record { records = Pairs.more g Pairs.none; number = refl; place = refl }

  pub both_run : (t u : ℕ → Turn A) → ((at : ℕ) → Turns (t at) (u at)) → (k at : ℕ) → Both (run_from t k at) (run_from u k at)
  unfolding run_from
  both_run t u h zero at = record { records = Pairs.none; number = refl; place = refl }
  both_run t u h (suc k) at = both_then at (t at) (u at) (h at) (run_from t k) (run_from u k) (λ n. both_run t u h k n)

  pub sounds : (fault at : ℕ) (t u : Turn A) → (fault ≡ 0 → Turns t u) → Turns (sound fault at t) (sound fault at u)
  sounds zero at t u h = h refl
  sounds (suc fault) at t u h = bads

  -- the same test on both sides
  pub choices : (b : Bool) (t u v w : Turn A) → (b ≡ true → Turns t u) → (b ≡ false → Turns v w) → Turns (cond b t v) (cond b u w)
  choices true t u v w h k = h refl
  choices false t u v w h k = k refl
