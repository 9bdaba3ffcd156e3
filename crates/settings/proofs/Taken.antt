-- The members of a set, one after the other: with each the tally takes in what stands at its place, and all of them come to the same. Assumes nothing.
use Prim.Native.Nat.{ℕ, suc, ◌+◌, ◌≤◌, ◌<◌}
use mathlib.Core.Path.{◌≡◌, refl, sym, ◌∙◌, ap}
use mathlib.Core.Bool.{Bool, true, false}
use mathlib.Core.List.{List, [], ◌∷◌}
use native.Mathlib.Omega.{arith}
use native.Mathlib.Nat.{add_assoc, add-zero}
use borrow.Author.Tests.{eqb-true, eqb-false, eq-eqb, ltb-false}
use lib.Dec.{eqb}
use lib.ListN.{length}
use Rattle.rules.specs.declared.Bands.{Bands}
use Rattle.rules.specs.Word.{word, kind_of, size_of, names_in}
use Rattle.rules.specs.Book.{Cover, Member, trade, written, basket, total}
use Rattle.rules.specs.Faults.{written_fault}
use Rattle.rules.specs.Read.{cover_turn, trade_at, written_at, basket_at, stands}
use Rattle.rules.specs.Weigh.{written_add_on, basket_add_on}
use Rattle.records.specs.Readable.{Readable}
use Rattle.baskets.specs.Reading.{basket_cause}
use Rattle.laws.proofs.Valid.{cause_none}
use Rattle.cuts.proofs.Chains.{Cut, sure_run, chain_onward, chain_run}
use Rattle.cuts.proofs.Grammar.{Whole, whole_within, stands_by_kind}
use Rattle.cuts.proofs.Records.{NoneOf, is_cover, CoverRead, cover_made, cover_over_lem, cover_onward, is_member, MemberRead, written_fault_at}
use Rattle.weighing.specs.declared.tally.Tally.{Tally}
use Rattle.weighing.specs.Gathered.{plus_member, plus_written, plus_basket, plus_members, TallyRoomy}
use Rattle.settings.specs.declared.members.Upto.{Upto}
use Rattle.std.specs.Prelude.{Some, None}
use Rattle.settings.specs.Members.{covers_from, SureCovers, members_from, tally_from, after_trade, after_credit, after_basket, SureMembers, Moved}
use Rattle.settings.proofs.Ahead.{Ahead, members_ahead_lem}
use Rattle.settings.proofs.Covers.{clash}

-- ---- a tally and members

-- a first one and others
joined : (bands : Bands) (t : Tally) (m : Member) (ms : List Member) → plus_members bands t (m ∷ ms) ≡ plus_members bands (plus_member bands t m) ms
joined bands t m ms = simp add_assoc

none_joined : (bands : Bands) (t : Tally) → plus_members bands t [] ≡ t
none_joined bands t = simp add-zero

credit_joined : (bands : Bands) (t : Tally) (ws : List ℕ) (at : ℕ) (cs : List Cover) → plus_member bands t (written (written_at ws at cs)) ≡ plus_written t (written_at ws at []) (total (λ (c : Cover). c.amount) cs)
unfolding written_at written_add_on
credit_joined bands t ws at cs = refl

basket_joined : (bands : Bands) (t : Tally) (ws : List ℕ) (at : ℕ) → plus_member bands t (basket (basket_at ws at)) ≡ plus_basket t (word ws (at + 1)) (basket_add_on (basket_at ws at))
unfolding basket_at
basket_joined bands t ws at = simp add-zero

-- what leaves room with further members does without them
room_before : (bands : Bands) (t : Tally) (ms : List Member) → TallyRoomy (plus_members bands t ms) → TallyRoomy t
room_before bands t ms r = record {
  gains = omega (arith, r.gains);
  losses = omega (arith, r.losses);
  gross = omega (arith, r.gross);
  uncovered = omega (arith, r.uncovered);
  written = omega (arith, r.written);
  covered = omega (arith, r.covered);
}

-- ---- covers that are cut are read

covers_read : (ws : List ℕ) (at stop : ℕ) (cs : List Cover) → stop ≤ length ws → Cut (CoverRead ws) (NoneOf is_cover ws) at cs stop → covers_from ws at ≡ sure_run cs stop
covers_read ws at stop cs h c =
    let o = chain_onward (λ i x j r. (cover_onward ws i x j r).0) c.chain in
    chain_run (cover_turn ws) (cover_made ws) c.chain (cover_over_lem ws stop c.last) (suc (length ws)) (omega arith)

-- ---- what stands at the place

module _ (bands : Bands) (ws : List ℕ) (u : Upto) (s : SureMembers bands ws u) where
  abbrev at : ℕ
  at = u.at

  abbrev Here : Type 0
  Here = Ahead (MemberRead ws at) (NoneOf is_member ws at) (members_from ws) (length ws) at (members_from ws at)

  ahead : Here
  ahead = members_ahead_lem ws at s.readable.within bands s.number

  pub room_here : TallyRoomy u.tally
  room_here = room_before bands u.tally (members_from ws at).records s.roomy

  -- behind a member, with a tally that has it
  behind : (m : Member) (v : Upto) → at < v.at → v.at ≤ length ws → (members_from ws v.at).number ≡ 0 → (members_from ws at).records ≡ m ∷ (members_from ws v.at).records
      → v.tally ≡ plus_member bands u.tally m → Moved bands ws u (Some v)
  behind m v l h n r e =
      let same : tally_from bands ws u ≡ tally_from bands ws v = ap (plus_members bands u.tally) r ∙ joined bands u.tally m (members_from ws v.at).records ∙ rw e in
      (same, (record { readable = record { within = h; short = s.readable.short }; number = n; roomy = rw same at s.roomy }, l))

  -- of the kind that was asked for, and of another
  here_kind : {b : Bool} (kind : ℕ) → b ≡ stands (suc kind) ws at → b ≡ true → kind_of (word ws at) ≡ suc kind
  here_kind kind q e = eqb-true _ _ (sym (stands_by_kind ws at kind) ∙ sym q ∙ e)

  two_kinds : {X : Type 0} (kind other : ℕ) → kind_of (word ws at) ≡ kind → kind_of (word ws at) ≡ other → eqb kind other ≡ false → X
  two_kinds kind other k o f = absurd (eqb-false kind other f (sym k ∙ o))

  no_member : {X : Type 0} (kind : ℕ) → kind_of (word ws at) ≡ kind → NoneOf is_member ws at → is_member kind ≡ true → X
  no_member kind k o t = clash (sym t ∙ ap is_member (sym k) ∙ o)

  -- a trade
  module _ {b : Bool} (q : b ≡ stands 5 ws at) (e : b ≡ true) where
    trade_taken : Readable (at + 5) ws × Moved bands ws u (Some (after_trade bands ws u))
    trade_taken = go ahead
      where
        k : kind_of (word ws at) ≡ 5
        k = here_kind 4 q e

        go : Here → Readable (at + 5) ws × Moved bands ws u (Some (after_trade bands ws u))
        go (Ahead.ends o r p) = no_member 5 k o refl
        go (Ahead.goes m next (MemberRead.of_trade w) l h n r p) =
            (record { within = h; short = s.readable.short }, behind (trade (trade_at ws at)) (after_trade bands ws u) l h n r refl)
        go (Ahead.goes m next (MemberRead.of_credit w c) l h n r p) = two_kinds 5 6 k w.of refl
        go (Ahead.goes m next (MemberRead.of_basket w) l h n r p) = two_kinds 5 11 k w.of refl

    pub trade_there : Readable (at + 5) ws × TallyRoomy u.tally
    trade_there = (trade_taken.0, room_here)

    pub trade_moves : {v : Upto} → v ≡ after_trade bands ws u → Moved bands ws u (Some v)
    trade_moves is = rw is trade_taken.1

  -- a written credit
  pub record CreditHere : Type 0 where
    pub readable : Readable (at + 6) ws
    pub under : size_of (word ws (at + 3)) ≤ size_of (word ws (at + 2))
    pub covers : SureCovers ws (at + 6)
    pub moves : Moved bands ws u (Some (after_credit ws u))

  under_notional : written_fault_at ws at ≡ 0 → size_of (word ws (at + 3)) ≤ size_of (word ws (at + 2))
  unfolding written_fault
  under_notional z =
      let a = (cause_none 6 _ _ z).1 in
      let b = (cause_none 7 _ _ a).1 in
      ltb-false _ _ (cause_none 8 _ _ b).0

  credit_here : (w : Whole 6 (written_fault_at ws at) ws at) (cs : List Cover) (next : ℕ) → Cut (CoverRead ws) (NoneOf is_cover ws) (at + 6) cs next → at < next → next ≤ length ws
      → (members_from ws next).number ≡ 0 → (members_from ws at).records ≡ written (written_at ws at cs) ∷ (members_from ws next).records → CreditHere
  unfolding written_at
  credit_here w cs next c l h n r =
      let read = covers_read ws (at + 6) next cs h c in
      let six : at + 6 ≤ length ws = whole_within 5 (written_fault_at ws at) ws at w in
      let readable : Readable (at + 6) ws = record { within = six; short = s.readable.short } in
      let all : tally_from bands ws u ≡ plus_members bands u.tally (written (written_at ws at cs) ∷ (members_from ws next).records) = ap (plus_members bands u.tally) r in
      let room = rw all at s.roomy in
      record {
        readable = readable;
        under = under_notional w.fine;
        covers = record { readable = readable; number = rw read; small = rw read (omega (arith, room.covered)) };
        moves = rw read (behind (written (written_at ws at cs)) (record { tally = plus_written u.tally (written_at ws at []) (total (λ (x : Cover). x.amount) cs); at = next }) l h n r (sym (credit_joined bands u.tally ws at cs)));
      }

  module _ {b : Bool} (q : b ≡ stands 6 ws at) (e : b ≡ true) where
    credit_taken : CreditHere
    credit_taken = go ahead
      where
        k : kind_of (word ws at) ≡ 6
        k = here_kind 5 q e

        go : Here → CreditHere
        go (Ahead.ends o r p) = no_member 6 k o refl
        go (Ahead.goes m next (MemberRead.of_trade w) l h n r p) = two_kinds 6 5 k w.of refl
        go (Ahead.goes m next (MemberRead.of_credit {covers = cs} w c) l h n r p) = credit_here w cs next c l h n r
        go (Ahead.goes m next (MemberRead.of_basket w) l h n r p) = two_kinds 6 11 k w.of refl

    pub credit_there : (Readable (at + 6) ws × TallyRoomy u.tally) × ((size_of (word ws (at + 3)) ≤ size_of (word ws (at + 2))) × SureCovers ws (at + 6))
    credit_there = ((credit_taken.readable, room_here), (credit_taken.under, credit_taken.covers))

    pub credit_moves : {v : Upto} → v ≡ after_credit ws u → Moved bands ws u (Some v)
    credit_moves is = rw is credit_taken.moves

  -- a basket
  module _ {b : Bool} (q : b ≡ stands 11 ws at) (e : b ≡ true) where
    basket_taken : Readable (at + 1) ws × (basket_cause ws at ≡ 0) × Moved bands ws u (Some (after_basket ws u))
    unfolding basket_cause
    basket_taken = go ahead
      where
        k : kind_of (word ws at) ≡ 11
        k = here_kind 10 q e

        go : Here → Readable (at + 1) ws × (basket_cause ws at ≡ 0) × Moved bands ws u (Some (after_basket ws u))
        go (Ahead.ends o r p) = no_member 11 k o refl
        go (Ahead.goes m next (MemberRead.of_trade w) l h n r p) = two_kinds 11 5 k w.of refl
        go (Ahead.goes m next (MemberRead.of_credit w c) l h n r p) = two_kinds 11 6 k w.of refl
        go (Ahead.goes m next (MemberRead.of_basket w) l h n r p) =
            let same : at + suc (names_in (word ws at) + 2) ≡ at + (names_in (word ws at) + 3) = omega arith in (
              record { within = omega arith; short = s.readable.short },
              rw w.amounts w.fine,
              behind (basket (basket_at ws at)) (after_basket ws u) (omega arith) (omega arith) (rw same at n) (rw same at r) (sym (basket_joined bands u.tally ws at)),
            )

    pub basket_there : (Readable (at + 1) ws × TallyRoomy u.tally) × (basket_cause ws at ≡ 0)
    basket_there = ((basket_taken.0, room_here), basket_taken.1)

    pub basket_moves : {v : Upto} → v ≡ after_basket ws u → Moved bands ws u (Some v)
    basket_moves is = rw is basket_taken.2

  -- none of the three
  pub none_left : {a b c : Bool} → a ≡ stands 5 ws at → a ≡ false → b ≡ stands 6 ws at → b ≡ false → c ≡ stands 11 ws at → c ≡ false → Moved bands ws u None
  none_left aq a bq b cq c = go ahead
    where
      -- a kind that was asked for in vain
      not_of : {d : Bool} (kind : ℕ) → d ≡ stands (suc kind) ws at → d ≡ false → kind_of (word ws at) ≡ suc kind → {X : Type 0} → X
      not_of kind dq d k = clash (sym (stands_by_kind ws at kind ∙ eq-eqb _ _ k) ∙ sym dq ∙ d)

      go : Here → Moved bands ws u None
      go (Ahead.ends o r p) = ap (plus_members bands u.tally) r ∙ none_joined bands u.tally
      go (Ahead.goes m next (MemberRead.of_trade w) l h n r p) = not_of 4 aq a w.of
      go (Ahead.goes m next (MemberRead.of_credit w d) l h n r p) = not_of 5 bq b w.of
      go (Ahead.goes m next (MemberRead.of_basket w) l h n r p) = not_of 10 cq c w.of
