-- Two derivative sets that are equal but for one amount, as they are read: if a claim speaks of it, it is the value of a member. Assumes nothing.
use Prim.Native.Nat.{ℕ, ◌+◌, ◌-◌, ◌≤◌, ◌<◌}
use mathlib.Core.Path.{◌≡◌, refl, sym, ◌∙◌}
use mathlib.Core.Bool.{Bool, true}
use mathlib.Core.List.{List, [], ◌∷◌, flat_map}
use native.Mathlib.Omega.{arith}
use lib.ListN.{length, drop, replicate, length-drop, get_or-append}
use lib.Seq.{get_or-drop, ext_get_or}
use Rattle.rules.specs.Word.{word, gain_of}
use Rattle.rules.specs.Book.{Member, derivatives}
use Rattle.rules.specs.Read.{trade_at, written_at, basket_at, derivative_set_at}
use Rattle.rules.specs.Weigh.{gain_in}
use Rattle.cuts.specs.Words.{OneAmount}
use Rattle.cuts.specs.Further.{memberless}
use Rattle.cuts.proofs.Chains.{chain_onward}
use Rattle.cuts.proofs.Records.{MemberRead, cover_onward, member_onward}
use Rattle.cuts.proofs.Steps.{OneOther}
use Rattle.cuts.proofs.OneAmount.{MemberOther}
use Rattle.corrections.specs.Roles.{head, margin_received, margin_paid, posted, notional, days, reset_days, loss_taken, premiums, grade, outside, Role, value, other, cover_roles, member_roles, item_roles}
use Rattle.corrections.specs.Claims.{units}
use Rattle.corrections.proofs.Apart.{gains_apart, one_of}
use Rattle.corrections.proofs.Values.{valueless, Revalued}
use Rattle.corrections.proofs.Corrected.{Corrected}
use Rattle.corrections.proofs.Places.{role_in, role_of_other, spoken_of, none_spoken_of, none_there, only_there, covers_none, replicate_none}
use Rattle.corrections.proofs.Counted.{member_words}

-- the roles of a set's own words
abbrev own_roles : List Role
own_roles = other head ∷ other margin_received ∷ other margin_paid ∷ other posted ∷ []

module _ {xs ys : List ℕ} {k : ℕ} (o : OneAmount xs ys k) where
  -- the other words of a record whose first amount it is: its head, and those behind it
  at_it : (at : ℕ) → k ≡ at + 1 → word xs at ≡ word ys at
  at_it at e = o.others at (λ z. omega arith)

  beside : (at : ℕ) → k ≡ at + 1 → (j : ℕ) → 1 < j → word xs (at + j) ≡ word ys (at + j)
  beside at e j l = o.others (at + j) (λ z. omega arith)

  behind_it : (at : ℕ) → k ≡ at + 1 → drop (at + 3) xs ≡ drop (at + 3) ys
  behind_it at e =
      ext_get_or 0 (drop (at + 3) xs) (drop (at + 3) ys) (omega (arith, length-drop (at + 3) xs, length-drop (at + 3) ys, o.long))
      (λ i l. get_or-drop (at + 3) xs i 0 ∙ o.others (at + 3 + i) (λ z. omega arith) ∙ sym (get_or-drop (at + 3) ys i 0))

  -- a member whose first amount it is
  valued : (at : ℕ) (m n : Member) → k ≡ at + 1 → valueless m ≡ valueless n → gain_in m ≡ gain_of (word xs (at + 1)) → gain_in n ≡ gain_of (word ys (at + 1)) → Revalued (units xs ys k) m n
  valued at m n e a f g = record { alike = a; gains = rw (f, g, e) (gains_apart (word xs (at + 1)) (word ys (at + 1))) }

  -- which is so in a trade, a written credit and a basket
  module _ (netting : Bool) (at : ℕ) where
    first_amount : (rest : List Role) → none_spoken_of rest ≡ true → spoken_of (role_in (other head ∷ value netting ∷ rest) (k - at)) ≡ true
        → (k ≡ at + 1) × (role_in (other head ∷ value netting ∷ rest) (k - at) ≡ value netting)
    first_amount rest e h = let q = only_there (other head ∷ []) (value netting) rest refl e (k - at) h in (omega (arith, q.0), q.1)

    member_corrected : (m n : Member) (next : ℕ) → MemberOther xs ys k at m n next → spoken_of (role_in (member_roles netting m) (k - at)) ≡ true
        → (role_in (member_roles netting m) (k - at) ≡ value netting) × Revalued (units xs ys k) m n
    unfolding trade_at written_at basket_at
    member_corrected m n next MemberOther.trades h =
        let q = first_amount (other notional ∷ other days ∷ other reset_days ∷ []) refl h in
        let is = beside at q.0 in
        (q.1, valued at m n q.0 (rw (at_it at q.0, is 2 (omega arith), is 3 (omega arith), is 4 (omega arith))) refl refl)
    member_corrected m n next (MemberOther.credits cs l) h =
        let q = first_amount (other notional ∷ other loss_taken ∷ other days ∷ other premiums ∷ flat_map cover_roles cs) (covers_none cs) h in
        let is = beside at q.0 in
        (q.1, valued at m n q.0 (rw (at_it at q.0, is 2 (omega arith), is 3 (omega arith), is 4 (omega arith), is 5 (omega arith))) refl refl)
    member_corrected m n next (MemberOther.covers {cs} c) h =
        let q = first_amount (other notional ∷ other loss_taken ∷ other days ∷ other premiums ∷ flat_map cover_roles cs) (covers_none cs) h in
        let z : ⊥ = omega (arith, q.0, c.from, chain_onward (λ i a j r. (cover_onward xs i a j r).0) c.reads_before) in absurd z
    member_corrected m n next MemberOther.baskets h =
        let names = length (basket_at xs at).grades in
        let q = first_amount (other notional ∷ replicate names (other grade)) (replicate_none names grade) h in
        (q.1, valued at m n q.0 (rw (at_it at q.0, beside at q.0 2 (omega arith), behind_it at q.0)) refl refl)

  -- ---- the set

  -- of its own amounts no claim speaks
  pub set_none : (l : List Member) → k < 4 → spoken_of (role_in (item_roles (derivatives (derivative_set_at xs l))) k) ≡ true → ⊥
  unfolding derivative_set_at
  set_none l b h =
      let e = get_or-append own_roles (flat_map (member_roles (derivative_set_at xs l).netting) l) (other outside) k b in
      none_there own_roles refl k (rw e at h)

  -- A SET in one of whose members it stands
  pub members_corrected : (l m : List Member) → OneOther (MemberRead xs) (MemberRead ys) (MemberOther xs ys k) k 4 l m
      → spoken_of (role_in (item_roles (derivatives (derivative_set_at xs l))) k) ≡ true
      → Corrected (word xs k) (word ys k) (role_in (item_roles (derivatives (derivative_set_at xs l))) k) (derivatives (derivative_set_at xs l)) (derivatives (derivative_set_at ys m))
  unfolding derivative_set_at
  members_corrected l m c h =
      let netting = (derivative_set_at xs l).netting in
      let there = role_of_other (member_roles netting) (member_words xs netting) own_roles refl c in
      let q = member_corrected netting c.at c.first c.second c.next c.step (rw there at h) in
      let far : 4 ≤ k = omega (arith, c.from, chain_onward (λ i a j r. (member_onward xs i a j r).0) c.reads_before) in
      let is : (i : ℕ) → i < 4 → word xs i ≡ word ys i = λ i b. o.others i (λ z. omega arith) in
      let alike : memberless (derivative_set_at xs l) ≡ memberless (derivative_set_at ys m) = rw (is 0 (omega arith), is 1 (omega arith), is 2 (omega arith), is 3 (omega arith)) in
      let e : role_in (item_roles (derivatives (derivative_set_at xs l))) k ≡ value netting = there ∙ q.0 in
      rw e (Corrected.for_derivatives (record { alike = alike; members = one_of c q.1 }))
