-- A run that ends without a fault is a chain: each record begins where the one before it ends. Once for protections, items, members,
-- covers and financing trades. Assumes nothing.
use Prim.Native.Nat.{ℕ, zero, suc, ◌+◌, ◌*◌, ◌≤◌, ◌<◌}
use mathlib.Core.Path.{◌≡◌, refl, ap}
use mathlib.Core.List.{List, [], ◌∷◌, ◌++◌}
use native.Mathlib.Omega.{arith}
use native.Mathlib.Nat.{mul-suc}
use lib.ListN.{length}
use Rattle.rules.specs.Run.{Turn, over, bad, some, Run, with_one, then_run, run_from}

-- records one after the other, by what it is for one of them to stand at a place and to end at another
pub data Chain {A : Type 0} (R : ℕ → A → ℕ → Type 0) : ℕ → List A → ℕ → Type 0 where
  done : {at : ℕ} → Chain R at [] at
  then : {at next stop : ℕ} {a : A} {l : List A} → R at a next → Chain R next l stop → Chain R at (a ∷ l) stop

-- records one after the other, taken apart at one of them
pub record Split {A : Type 0} (R : ℕ → A → ℕ → Type 0) (at : ℕ) (l : List A) (a : A) (m : List A) (stop : ℕ) : Type 0 where
  pub begin : ℕ
  pub end : ℕ
  pub before : Chain R at l begin
  pub one : R begin a end
  pub after : Chain R end m stop

-- all records, and nothing more of them behind the last
pub record Cut {A : Type 0} (R : ℕ → A → ℕ → Type 0) (Over : ℕ → Type 0) (at : ℕ) (l : List A) (stop : ℕ) : Type 0 where
  pub chain : Chain R at l stop
  pub last : Over stop

-- what a turn at a place of n words is: nothing more; a fault, which has a number; a record with a fault inside it; or a record without one, which goes
-- on and stays within the words
pub data View {A : Type 0} (n at : ℕ) (R : A → ℕ → Type 0) (Over : Type 0) : Turn A → Type 0 where
  ends : Over → View n at R Over over
  faulty : {number place : ℕ} → View n at R Over (bad (suc number) place)
  broken : {a : A} {number place : ℕ} → View n at R Over (some a (suc number) place)
  one : {a : A} {next : ℕ} → R a next → at < next → next ≤ n → View n at R Over (some a 0 next)

module _ {A : Type 0} where
  -- the run of these records, without a fault, up to a place
  abbrev pub sure_run : List A → ℕ → Run A
  sure_run l stop = record { records = l; number = 0; place = stop }

  module _ {R : ℕ → A → ℕ → Type 0} where
    -- one chain behind another
    pub chain_append : {at mid stop : ℕ} {l m : List A} → Chain R at l mid → Chain R mid m stop → Chain R at (l ++ m) stop
    chain_append done d = d
    chain_append (then r c) d = then r (chain_append c d)

    -- up to one of its records, that one, and behind it
    pub chain_split : {at stop : ℕ} (l : List A) {a : A} {m : List A} → Chain R at (l ++ a ∷ m) stop → Split R at l a m stop
    chain_split [] (then r c) = record { begin = _; end = _; before = done; one = r; after = c }
    chain_split (b ∷ l) (then r c) = let s = chain_split l c in record { begin = s.begin; end = s.end; before = then r s.before; one = s.one; after = s.after }

    -- it goes on, at least a word for each record
    pub chain_onward : ((at : ℕ) (a : A) (next : ℕ) → R at a next → at < next) → {at stop : ℕ} {l : List A} → Chain R at l stop → at + length l ≤ stop
    chain_onward f done = omega arith
    chain_onward f (then {at} {next} {stop} {a} r c) = omega (arith, f at a next r, chain_onward f c)

    -- records of one length
    pub chain_even : (c : ℕ) → ((at : ℕ) (a : A) (next : ℕ) → R at a next → next ≡ at + c) → {at stop : ℕ} {l : List A} → Chain R at l stop → stop ≡ at + c * length l
    chain_even c f done = omega arith
    chain_even c f (then {at} {next} {stop} {a} {l} r t) = omega (arith, f at a next r, chain_even c f t, mul-suc c (length l))

  -- a turn that is a record without a fault
  module _ {n at : ℕ} {R : A → ℕ → Type 0} {Over : Type 0} where
    -- it is read so, goes on and stays within the words
    pub view_one : {t : Turn A} → View n at R Over t → (a : A) (next : ℕ) → t ≡ some a 0 next → R a next × (at < next) × (next ≤ n)
    view_one (View.ends o) a next e = let z : ◌≡◌ {A = ℕ} 0 1 = cc in absurd (omega arith)
    view_one View.faulty a next e = let z : ◌≡◌ {A = ℕ} 0 1 = cc in absurd (omega arith)
    view_one View.broken a next e = let z : ◌≡◌ {A = ℕ} 0 1 = cc in absurd (omega arith)
    view_one (View.one {a = b} {next = stop} w l h) a next e =
        let z : stop ≡ next = cc in
        let y : b ≡ a = cc in (rw (← y, ← z) w, omega arith, omega arith)

  -- ---- a run without a fault is a chain

  module _ {R : ℕ → A → ℕ → Type 0} {Over : ℕ → Type 0} (n : ℕ) (turn : ℕ → Turn A) (view : (at : ℕ) → View n at (R at) (Over at) (turn at)) where
    -- what a run from a place on comes to: a chain; where it has room for more, nothing more follows; and it stays within the words
    record Ran (k at : ℕ) (r : Run A) : Type 0 where
      pub chain : Chain R at r.records r.place
      pub last : 0 < k → n < at + k → Over r.place
      pub within : at ≤ n → (at ≤ r.place) × (r.place ≤ n)

    ran : (k at : ℕ) → (run_from turn k at).number ≡ 0 → Ran k at (run_from turn k at)
    unfolding run_from
    ran zero at e = record { chain = done; last = λ l m. let z : ⊥ = omega arith in absurd z; within = λ h. (omega arith, h) }
    ran (suc k) at e = go (turn at) (view at) (λ next f. ran k next f) e
      where
        go : (t : Turn A) → View n at (R at) (Over at) t → ((next : ℕ) → (run_from turn k next).number ≡ 0 → Ran k next (run_from turn k next))
            → (then_run t at (run_from turn k)).number ≡ 0 → Ran (suc k) at (then_run t at (run_from turn k))
        go t (View.ends o) r f = record { chain = done; last = λ l m. o; within = λ h. (omega arith, h) }
        go t View.faulty r f = let z : ⊥ = omega arith in absurd z
        go t View.broken r f = let z : ⊥ = omega arith in absurd z
        go t (View.one {next = next} w l h) r f =
            let q = r next f in
            record { chain = then w q.chain; last = λ i m. q.last (omega arith) (omega arith); within = λ i. let p = q.within h in (omega arith, p.1) }

    -- however many records it may read
    pub run_chain : (k at : ℕ) → (run_from turn k at).number ≡ 0 → Chain R at (run_from turn k at).records (run_from turn k at).place
    run_chain k at e = (ran k at e).chain

    -- and with room for more than there are words, it has them all
    pub run_cut : (at : ℕ) → (run_from turn (suc n) at).number ≡ 0 → Cut R Over at (run_from turn (suc n) at).records (run_from turn (suc n) at).place
    run_cut at e = let r = ran (suc n) at e in record { chain = r.chain; last = r.last (omega arith) (omega arith) }

    -- it goes on and stays within the words
    pub run_within : (k at : ℕ) → at ≤ n → (run_from turn k at).number ≡ 0 → (at ≤ (run_from turn k at).place) × ((run_from turn k at).place ≤ n)
    run_within k at h e = (ran k at e).within h

    -- each of its records goes on and stays within the words
    pub seen_onward : ((at : ℕ) (a : A) (next : ℕ) → R at a next → turn at ≡ some a 0 next) → (at : ℕ) (a : A) (next : ℕ) → R at a next → (at < next) × (next ≤ n)
    seen_onward made at a next r = let o = view_one (view at) a next (made at a next r) in (o.1, o.2)

  -- ---- and a chain is run

  module _ {R : ℕ → A → ℕ → Type 0} (turn : ℕ → Turn A) (made : (at : ℕ) (a : A) (next : ℕ) → R at a next → turn at ≡ some a 0 next) where
    -- with a bound that lets it see that nothing follows
    pub chain_run : {at stop : ℕ} {l : List A} → Chain R at l stop → turn stop ≡ over → (k : ℕ) → length l < k → run_from turn k at ≡ sure_run l stop
    unfolding run_from
    chain_run done e zero h = let z : ⊥ = omega arith in absurd z
    chain_run (done {at}) e (suc k) h = rw e
    chain_run (then r c) e zero h = let z : ⊥ = omega arith in absurd z
    chain_run (then {at} {next} {stop} {a} {l} r c) e (suc k) h = rw (made at a next r) (ap (with_one a) (chain_run c e k (omega arith)))

    -- or with just as many as there are
    pub chain_run_all : {at stop : ℕ} {l : List A} → Chain R at l stop → run_from turn (length l) at ≡ sure_run l stop
    unfolding run_from
    chain_run_all done = refl
    chain_run_all (then {at} {next} {stop} {a} {l} r c) = rw (made at a next r) (ap (with_one a) (chain_run_all c))
