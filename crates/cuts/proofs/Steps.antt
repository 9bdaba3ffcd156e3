-- Two chains from one place whose records are the same but for one, in whose words a place k stands: once for items, members, covers and financing
-- trades. Assumes nothing.
use Prim.Native.Nat.{ℕ, ◌≤◌, ◌<◌}
use mathlib.Core.Path.{◌≡◌, refl, ap}
use mathlib.Core.List.{List, [], ◌∷◌, ◌++◌}
use native.Mathlib.Omega.{arith}
use native.Mathlib.Decide.{dec_lt}
use Rattle.cuts.proofs.Chains.{Chain}

-- the same records but for one, in whose words k stands, how those before it are read from a place on, and how that one is read in either
pub record OneOther {A : Type 0} (R S : ℕ → A → ℕ → Type 0) (J : ℕ → A → A → ℕ → Type 0) (k start : ℕ) (l m : List A) : Type 0 where
  pub before : List A
  pub first : A
  pub second : A
  pub after : List A
  pub at : ℕ
  pub next : ℕ
  pub from : at ≤ k
  pub below : k < next
  pub reads_before : Chain R start before at
  pub reads_first : R at first next
  pub reads_second : S at second next
  pub step : J at first second next
  pub is_first : l ≡ before ++ first ∷ after
  pub is_second : m ≡ before ++ second ∷ after

-- the same one before both
one_later : {A : Type 0} {R S : ℕ → A → ℕ → Type 0} {J : ℕ → A → A → ℕ → Type 0} {k start next : ℕ} {l m : List A} (a : A) → R start a next
    → OneOther R S J k next l m → OneOther R S J k start (a ∷ l) (a ∷ m)
one_later {A} a r i = record {
  before = a ∷ i.before;
  first = i.first;
  second = i.second;
  after = i.after;
  at = i.at;
  next = i.next;
  from = i.from;
  below = i.below;
  reads_before = Chain.then r i.reads_before;
  reads_first = i.reads_first;
  reads_second = i.reads_second;
  step = i.step;
  is_first = ap (λ (v : List A). a ∷ v) i.is_first;
  is_second = ap (λ (v : List A). a ∷ v) i.is_second;
}

-- what is to be shown of the records of two chains: those in whose words k does not stand are the same, and one in whose words it does ends where the
-- other does
pub record Steps {A : Type 0} (R S : ℕ → A → ℕ → Type 0) (Over Under : ℕ → Type 0) (J : ℕ → A → A → ℕ → Type 0) (k : ℕ) : Type 0 where
  pub onward : (at : ℕ) (a : A) (next : ℕ) → R at a next → at < next
  pub same : (at : ℕ) (a b : A) (next next' : ℕ) → (at ≤ k → next ≤ k) → R at a next → S at b next' → (a ≡ b) × (next ≡ next')
  pub step : (at : ℕ) (a b : A) (next next' : ℕ) → at ≤ k → k < next → R at a next → S at b next' → (next ≡ next') × J at a b next
  pub first_ends : (at : ℕ) (b : A) (next : ℕ) → Over at → S at b next → ⊥
  pub second_ends : (at : ℕ) (a : A) (next : ℕ) → Under at → R at a next → ⊥

module _ {A : Type 0} {R S : ℕ → A → ℕ → Type 0} {Over Under : ℕ → Type 0} {J : ℕ → A → A → ℕ → Type 0} {k : ℕ} (t : Steps R S Over Under J k) where
  -- from behind k on all records are the same
  pub chains_same : {at stop stop' : ℕ} {l m : List A} → k < at → Chain R at l stop → Over stop → Chain S at m stop' → Under stop' → (l ≡ m) × (stop ≡ stop')
  chains_same h Chain.done o Chain.done u = (refl, refl)
  chains_same h (Chain.done {at}) o (Chain.then {next = next} {a = b} s d) u = absurd (t.first_ends at b next o s)
  chains_same h (Chain.then {at} {next} {a = a} r c) o Chain.done u = absurd (t.second_ends at a next u r)
  chains_same {stop' = stop'} h (Chain.then {at} {next} {a = a} {l} r c) o (Chain.then {next = next'} {a = b} {l = m} s d) u =
      let e = t.same at a b next next' (λ g. let z : ⊥ = omega arith in absurd z) r s in
      let d' : Chain S next m stop' = rw e.1 d in
      let q = chains_same (omega (arith, t.onward at a next r)) c o d' u in
      (rw (e.0, q.0), q.1)

  -- from k or before it on all but one are
  pub chains_other : {at stop stop' : ℕ} {l m : List A} → at ≤ k → k < stop → Chain R at l stop → Over stop → Chain S at m stop' → Under stop' → (stop ≡ stop') × OneOther R S J k at l m
  chains_other h b Chain.done o d u = let z : ⊥ = omega arith in absurd z
  chains_other h b (Chain.then {at} {next} {a = a} r c) o Chain.done u = absurd (t.second_ends at a next u r)
  chains_other {stop = stop} {stop' = stop'} h below (Chain.then {at} {next} {a = a} {l} r c) o (Chain.then {next = next'} {a = b} {l = m} s d) u =
      go (dec_lt k next) (λ g d'. chains_other g below c o d' u)
    where
      go : Dec (k < next) → (next ≤ k → Chain S next m stop' → (stop ≡ stop') × OneOther R S J k next l m) → (stop ≡ stop') × OneOther R S J k at (a ∷ l) (b ∷ m)
      go (yes p) f =
          let e = t.step at a b next next' h p r s in
          let d' : Chain S next m stop' = rw e.0 d in
          let q = chains_same p c o d' u in
          let s' : S at b next = rw e.0 s in (
            q.1,
            record { before = []; first = a; second = b; after = l; at = at; next = next; from = h; below = p; reads_before = Chain.done; reads_first = r; reads_second = s'; step = e.1; is_first = refl; is_second = rw q.0 },
          )
      go (no p) f =
          let e = t.same at a b next next' (λ _. omega arith) r s in
          let d' : Chain S next m stop' = rw e.1 d in
          let q = f (omega arith) d' in
          (q.0, rw (← e.0) (one_later a r q.1))
