-- Where in a book an amount stands that a claim speaks of. Assumes nothing.
use Prim.Native.Nat.{ℕ, zero, suc, ◌+◌, ◌-◌, ◌≤◌, ◌<◌}
use mathlib.Core.Path.{◌≡◌, refl, ◌∙◌, ap}
use mathlib.Core.Bool.{Bool, true, false, not, ◌&&◌}
use mathlib.Core.List.{List, [], ◌∷◌, ◌++◌, flat_map}
use native.Mathlib.Omega.{arith}
use lib.ListN.{length, get_or, replicate, get_or-append}
use lib.Seq.{get_or-append-add}
use Rattle.rules.specs.Book.{Cover}
use Rattle.rules.proofs.Lists.{and_left, and_right}
use Rattle.cuts.proofs.Chains.{Chain}
use Rattle.cuts.proofs.Lengths.{chain_length}
use Rattle.cuts.proofs.Steps.{OneOther}
use Rattle.corrections.specs.Roles.{Other, outside, Role, carrying, off_balance_notional, value, lent, other, cover_roles}

-- the role at a place
abbrev pub role_in : List Role → ℕ → Role
role_in l j = get_or l j (other outside)

-- ---- the roles of records that follow each other

module _ {A : Type 0} {R : ℕ → A → ℕ → Type 0} (roles : A → List Role) (words : (at : ℕ) (a : A) (next : ℕ) → R at a next → next ≡ at + length (roles a)) where
  behind : {at stop : ℕ} {l : List A} → Chain R at l stop → at ≤ stop
  behind c = omega (arith, chain_length (λ (a : A). length (roles a)) words c)

  -- a word in one of them has its role there
  role_there : {start at next : ℕ} {before : List A} (first : A) (after : List A) → Chain R start before at → R at first next → (k : ℕ) → at ≤ k → k < next
      → role_in (flat_map roles (before ++ first ∷ after)) (k - start) ≡ role_in (roles first) (k - at)
  unfolding flat_map
  role_there {at = at} {next} first after Chain.done r k h b =
      get_or-append (roles first) (flat_map roles after) (other outside) (k - at) (omega (arith, words at first next r))
  role_there {start} first after (Chain.then {next = second} {a} {l} q c) r k h b =
      let e : k - start ≡ length (roles a) + (k - second) = omega (arith, words start a second q, behind c) in
      rw e (get_or-append-add (roles a) (flat_map roles (l ++ first ∷ after)) (k - second) (other outside)) ∙ role_there first after c r k h b

  -- so has the word that two books differ in, behind words of other roles
  pub role_of_other : {S : ℕ → A → ℕ → Type 0} {J : ℕ → A → A → ℕ → Type 0} {k start : ℕ} {l m : List A} (own : List Role) → length own ≡ start → (c : OneOther R S J k start l m)
      → role_in (own ++ flat_map roles l) k ≡ role_in (roles c.first) (k - c.at)
  role_of_other {k = k} {start} {l} own n c =
      let e : k ≡ length own + (k - start) = omega (arith, behind c.reads_before, c.from) in
      ap (role_in (own ++ flat_map roles l)) e ∙ get_or-append-add own (flat_map roles l) (k - start) (other outside)
      ∙ ap (λ (x : List A). role_in (flat_map roles x) (k - start)) c.is_first
      ∙ role_there c.first c.after c.reads_before c.reads_first k c.from c.below

-- ---- amounts that claims speak of

abbrev pub spoken_of : Role → Bool
spoken_of (carrying fiduciary) = true
spoken_of (off_balance_notional class committed) = true
spoken_of (value netting) = true
spoken_of (lent further) = true
spoken_of (other name) = false

-- a list has none of them
abbrev pub none_spoken_of : List Role → Bool
none_spoken_of [] = true
none_spoken_of (r ∷ l) = not (spoken_of r) && none_spoken_of l

clash : {X : Type 0} (b : Bool) → b ≡ true → not b ≡ true → X
clash b e f = let z : ◌≡◌ {A = ℕ} 0 1 = cc in absurd (omega arith)

-- so no word is one of them there
pub none_there : (l : List Role) → none_spoken_of l ≡ true → (j : ℕ) → spoken_of (role_in l j) ≡ true → ⊥
none_there [] e j h = clash (spoken_of (other outside)) h refl
none_there (r ∷ l) e zero h = clash (spoken_of r) h (and_left (not (spoken_of r)) _ e)
none_there (r ∷ l) e (suc j) h = none_there l (and_right (not (spoken_of r)) _ e) j h

-- and where one role stands among others, a word that is one of them stands in its place
pub only_there : (front : List Role) (role : Role) (rest : List Role) → none_spoken_of front ≡ true → none_spoken_of rest ≡ true → (j : ℕ)
    → spoken_of (role_in (front ++ role ∷ rest) j) ≡ true → (j ≡ length front) × (role_in (front ++ role ∷ rest) j ≡ role)
only_there [] role rest e f zero h = (refl, refl)
only_there [] role rest e f (suc j) h = absurd (none_there rest f j h)
only_there (r ∷ front) role rest e f zero h = clash (spoken_of r) h (and_left (not (spoken_of r)) _ e)
only_there (r ∷ front) role rest e f (suc j) h = let q = only_there front role rest (and_right (not (spoken_of r)) _ e) f j h in (ap suc q.0, q.1)

-- neither the covers of a credit nor the grades of a basket are, nor what stands before the items
pub covers_none : (covers : List Cover) → none_spoken_of (flat_map cover_roles covers) ≡ true
unfolding flat_map
covers_none [] = refl
covers_none (c ∷ covers) = covers_none covers

pub replicate_none : (n : ℕ) (name : Other) → none_spoken_of (replicate n (other name)) ≡ true
replicate_none zero name = refl
replicate_none (suc n) name = replicate_none n name
