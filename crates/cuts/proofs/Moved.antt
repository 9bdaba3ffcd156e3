-- A record is its own words: where a stretch of words stands in another book, or at another place of the same one, it is read as the same
-- records there. Of what follows the stretch only the kind of the next word matters, and only a cover knows its own place. Assumes nothing.
use Prim.Native.Nat.{ℕ, suc, ◌+◌, ◌-◌, ◌≤◌, ◌<◌}
use mathlib.Core.Path.{◌≡◌, sym, ◌∙◌, ap}
use mathlib.Core.Bool.{Bool, false}
use mathlib.Core.List.{List, map}
use native.Mathlib.Omega.{arith}
use native.Mathlib.Decide.{dec_lt}
use native.Mathlib.Nat.{add_assoc}
use lib.ListN.{length}
use Rattle.rules.specs.Word.{word, kind_of, names_in}
use Rattle.rules.specs.Book.{Protection, Cover, Member}
use Rattle.rules.specs.Read.{lacks, protection_at, cover_at, written_at, trade_at, grades_at, basket_at}
use Rattle.cuts.proofs.Amounts.{amount_kind, none_lacking, stretch_same}
use Rattle.cuts.proofs.Chains.{Chain, Cut, chain_onward}
pub use Rattle.cuts.proofs.MovedPlaces.{moved_cover, moved_member}
use Rattle.cuts.proofs.Grammar.{Whole, amounts_at}
use Rattle.cuts.proofs.Records.{NoneOf, is_cover, CoverRead, cover_onward, MemberRead, ProtectionRead, cover_fault_at, trade_fault_at, written_fault_at, basket_fault_at, protection_fault_at}

-- the words of the one from a place up to another stand in the other, each where `move` takes its place
pub record Stretch (move : ℕ → ℕ) (xs ys : List ℕ) (from to : ℕ) : Type 0 where
  pub within : to ≤ length xs
  pub there : move to ≤ length ys
  pub even : (at k : ℕ) → from ≤ at → move (at + k) ≡ move at + k
  pub words : (at : ℕ) → from ≤ at → at < to → word xs at ≡ word ys (move at)

-- what does not stand behind the stretch in the one does not in the other
abbrev pub Follows : (ℕ → Bool) → (ℕ → ℕ) → List ℕ → List ℕ → ℕ → Type 0
Follows test move xs ys to = NoneOf test xs to → NoneOf test ys (move to)

module _ {move : ℕ → ℕ} {xs ys : List ℕ} {from to : ℕ} (s : Stretch move xs ys from to) where
  -- the word so many places on
  pub word_on : (at k : ℕ) → from ≤ at → at + k < to → word xs (at + k) ≡ word ys (move at + k)
  word_on at k h l = s.words (at + k) (omega arith) l ∙ ap (word ys) (s.even at k h)

  -- the other has words enough
  pub room_on : (at k : ℕ) → from ≤ at → at + k ≤ to → move at + k ≤ length ys
  room_on at k h l =
      let a : at + (to - at) ≡ to = omega arith in
      omega (arith, s.there, s.even at (to - at) h, ap move a)

  lacks_moved : (n at : ℕ) → from ≤ at → at + n < to → lacks n xs at ≡ false → lacks n ys (move at) ≡ false
  lacks_moved n at h l e =
      none_lacking n ys (move at) (omega (arith, room_on at (suc n) h (omega arith)))
      (λ k m. ap kind_of (sym (word_on at (suc k) h (omega arith))) ∙ amount_kind n xs at e k m)

  -- a whole record that ends within the stretch
  pub whole_moved : (kind f g at : ℕ) → from ≤ at → at + amounts_at kind xs at < to → f ≡ g → Whole kind f xs at → Whole kind g ys (move at)
  whole_moved kind f g at h l e w =
      let x = s.words at h (omega arith) in
      record {
        of = ap kind_of (sym x) ∙ w.of;
        amounts = rw (← x) (lacks_moved (amounts_at kind xs at) at h l w.amounts);
        fine = sym e ∙ w.fine;
      }

  -- what does not stand in the stretch in the one does not in the other, nor right behind it
  pub none_moved : (test : ℕ → Bool) (at : ℕ) → from ≤ at → at ≤ to → Follows test move xs ys to → NoneOf test xs at → NoneOf test ys (move at)
  none_moved test at h l f e = go (dec_lt at to)
    where
      go : Dec (at < to) → NoneOf test ys (move at)
      go (yes p) = rw (← s.words at h p) e
      go (no p) = let q : to ≡ at = omega arith in rw q at (f (rw q e))

  -- a chain, as each of its records
  pub chain_moved : {A : Type 0} {R S : ℕ → A → ℕ → Type 0} (f : A → A) → ((at : ℕ) (a : A) (next : ℕ) → R at a next → at < next)
      → ((at : ℕ) (a : A) (next : ℕ) → from ≤ at → next ≤ to → R at a next → S (move at) (f a) (move next))
      → {at stop : ℕ} {l : List A} → from ≤ at → stop ≤ to → Chain R at l stop → Chain S (move at) (map f l) (move stop)
  chain_moved f o g h m Chain.done = Chain.done
  chain_moved f o g h m (Chain.then {at} {next} {stop} {a} r c) =
      Chain.then (g at a next h (omega (arith, chain_onward o c)) r) (chain_moved f o g (omega (arith, o at a next r)) m c)

  -- ---- each kind of record

  -- a protection
  pub protection_moved : (at : ℕ) (p : Protection) (next : ℕ) → from ≤ at → next ≤ to → ProtectionRead xs at p next → ProtectionRead ys (move at) p (move next)
  unfolding protection_at
  protection_moved at p next h l (ProtectionRead.one w) =
      let x = s.words at h (omega arith) in
      let a = word_on at 1 h (omega arith) in
      let b = word_on at 2 h (omega arith) in
      let c = word_on at 3 h (omega arith) in
      let k = whole_moved 3 (protection_fault_at xs at) (protection_fault_at ys (move at)) at h (omega arith) (rw (x, a, b, c)) w in
      rw (x, a, b, c, s.even at 4 h) (ProtectionRead.one k)

  -- A COVER, wherever it stands
  pub cover_moved : (at : ℕ) (c : Cover) (next : ℕ) → from ≤ at → next ≤ to → CoverRead xs at c next → CoverRead ys (move at) (moved_cover move c) (move next)
  unfolding cover_at
  cover_moved at c next h l (CoverRead.one w) =
      let x = s.words at h (omega arith) in
      let a = word_on at 1 h (omega arith) in
      let k = whole_moved 7 (cover_fault_at xs at) (cover_fault_at ys (move at)) at h (omega arith) (rw (x, a)) w in
      rw (x, a, s.even at 2 h) (CoverRead.one k)

  covers_moved : Follows is_cover move xs ys to → {at stop : ℕ} {cs : List Cover} → from ≤ at → stop ≤ to
      → Cut (CoverRead xs) (NoneOf is_cover xs) at cs stop → Cut (CoverRead ys) (NoneOf is_cover ys) (move at) (map (moved_cover move) cs) (move stop)
  covers_moved f {at} {stop} h l c =
      let onward : (i : ℕ) (a : Cover) (next : ℕ) → CoverRead xs i a next → i < next = λ i a next r. (cover_onward xs i a next r).0 in
      let o = chain_onward onward c.chain in
      record { chain = chain_moved (moved_cover move) onward cover_moved h l c.chain; last = none_moved is_cover stop (omega arith) l f c.last }

  grades_moved : (at : ℕ) → from ≤ at → at + suc (names_in (word xs at) + 2) ≤ to → grades_at xs at ≡ grades_at ys (move at)
  grades_moved at h l =
      rw (← s.words at h (omega arith))
      (stretch_same (names_in (word xs at)) xs ys (at + 3) (move at + 3) (omega (arith, s.within)) (omega (arith, room_on at (suc (names_in (word xs at) + 2)) h l))
      (λ k m. ap (word xs) (add_assoc at 3 k) ∙ word_on at (3 + k) h (omega arith) ∙ ap (word ys) (sym (add_assoc (move at) 3 k))))

  -- A MEMBER, wherever it stands, if no cover comes to stand behind it that did not before
  pub member_moved : Follows is_cover move xs ys to → (at : ℕ) (m : Member) (next : ℕ) → from ≤ at → next ≤ to → MemberRead xs at m next → MemberRead ys (move at) (moved_member move m) (move next)
  unfolding trade_at written_at basket_at
  member_moved f at m next h l (MemberRead.of_trade w) =
      let x = s.words at h (omega arith) in
      let a = word_on at 1 h (omega arith) in
      let b = word_on at 2 h (omega arith) in
      let c = word_on at 3 h (omega arith) in
      let d = word_on at 4 h (omega arith) in
      let k = whole_moved 5 (trade_fault_at xs at) (trade_fault_at ys (move at)) at h (omega arith) (rw (x, a, b, c, d)) w in
      rw (x, a, b, c, d, s.even at 5 h) (MemberRead.of_trade k)
  member_moved f at m next h l (MemberRead.of_credit {covers} {stop} w cut) =
      let o = chain_onward (λ i a next r. (cover_onward xs i a next r).0) cut.chain in
      let x = s.words at h (omega arith) in
      let a = word_on at 1 h (omega arith) in
      let b = word_on at 2 h (omega arith) in
      let c = word_on at 3 h (omega arith) in
      let d = word_on at 4 h (omega arith) in
      let g = word_on at 5 h (omega arith) in
      let k = whole_moved 6 (written_fault_at xs at) (written_fault_at ys (move at)) at h (omega arith) (rw (x, a, b, c, d, g)) w in
      rw (x, a, b, c, d, g) (MemberRead.of_credit k (rw (s.even at 6 h) at (covers_moved f (omega arith) l cut)))
  member_moved f at m next h l (MemberRead.of_basket w) =
      let x = s.words at h (omega arith) in
      let a = word_on at 1 h (omega arith) in
      let b = word_on at 2 h (omega arith) in
      let g = grades_moved at h l in
      let k = whole_moved 11 (basket_fault_at xs at) (basket_fault_at ys (move at)) at h (omega arith) (rw (g, x, a, b)) w in
      rw (g, s.even at (suc (names_in (word xs at) + 2)) h, x, a, b) (MemberRead.of_basket k)
