-- A derivative set whose head has other marks reads as the same set with these marks. Assumes nothing.
use Prim.Native.Nat.{ℕ, suc, ◌+◌, ◌%◌, ◌≤◌, ◌<◌}
use mathlib.Core.Path.{◌≡◌, refl, sym, ◌∙◌, ap}
use mathlib.Core.List.{List}
use native.Mathlib.Omega.{arith}
use lib.Dec.{lit<}
use lib.ListN.{length}
use Rattle.rules.specs.Word.{word, kind_of}
use Rattle.rules.specs.Book.{Member, DerivativeSet, derivatives}
use Rattle.rules.specs.Read.{derivative_set_at}
use Rattle.cuts.proofs.Amounts.{amount_kind, none_lacking}
use Rattle.cuts.proofs.Chains.{Cut}
use Rattle.cuts.proofs.Grammar.{Whole, whole_within}
use Rattle.cuts.proofs.Records.{NoneOf, is_member, MemberRead, derivative_set_fault_at, ItemRead, item_onward}
use Rattle.cuts.proofs.Moved.{moved_member, Stretch}
use Rattle.cuts.proofs.Local.{stay, map_same, member_stays}
use Rattle.cuts.proofs.Changed.{members_moved}
use Rattle.other_marks.specs.Marked.{settings, with_marks, set_with}
use Rattle.other_marks.proofs.Words.{kind_kept, mark_is, still_sound, filed_marks}

-- words that begin with a set's head, and the same words with other marks of it
module _ (xs ys : List ℕ) (m : ℕ) (l : m < settings) (long : length xs ≡ length ys) (head : word ys 0 ≡ with_marks (word xs 0) m)
    (others : (i : ℕ) → 0 < i → word xs i ≡ word ys i) where
  set_marked : (members : List Member) → derivative_set_at ys members ≡ set_with m (derivative_set_at xs members)
  unfolding derivative_set_at
  set_marked members =
      let w = word xs 0 in
      rw (head, mark_is w m l 0 (lit< tt), mark_is w m l 1 (lit< tt), mark_is w m l 2 (lit< tt), mark_is w m l 3 (lit< tt), mark_is w m l 4 (lit< tt), mark_is w m l 5 (lit< tt), ← others 1 (omega arith), ← others 2 (omega arith), ← others 3 (omega arith))

  head_marked : Whole 4 (derivative_set_fault_at xs) xs 0 → Whole 4 (derivative_set_fault_at ys) ys 0
  head_marked w = record {
    of = ap kind_of head ∙ kind_kept (word xs 0) m l ∙ w.of;
    amounts = none_lacking 3 ys 0 (omega (arith, whole_within 3 (derivative_set_fault_at xs) xs 0 w)) (λ k h. ap kind_of (sym (others (0 + suc k) (omega arith))) ∙ amount_kind 3 xs 0 w.amounts k h);
    fine = rw (head, ← others 1 (omega arith), ← others 2 (omega arith), ← others 3 (omega arith)) (still_sound (word xs 0) m l (word xs 1) (word xs 2) (word xs 3) w.fine);
  }

  members_kept : (members : List Member) (stop : ℕ) → stop ≤ length xs → Cut (MemberRead xs) (NoneOf is_member xs) 4 members stop → 0 < stop
      → Cut (MemberRead ys) (NoneOf is_member ys) 4 members stop
  members_kept members stop h c z = record {
    chain = rw (map_same (moved_member stay) member_stays members) at (members_moved same (λ e. rw (← others stop z) e) (omega arith) (omega arith) c.chain);
    last = rw (← others stop z) c.last;
  }
    where
      same : Stretch stay xs ys 4 stop
      same = record { within = h; there = omega arith; even = λ at k i. refl; words = λ at i k. others at (omega arith) }

  -- THE SET WITH OTHER MARKS
  pub item_marked : (s : DerivativeSet) (n : ℕ) → ItemRead xs (derivatives s) n → ItemRead ys (derivatives (set_with m s)) n
  item_marked s n (ItemRead.for_derivatives {members} w c) =
      let o = item_onward xs _ n (ItemRead.for_derivatives w c) in
      rw (← set_marked members) (ItemRead.for_derivatives (head_marked w) (members_kept members n o.1 c o.0))

-- the marks that a head has are those of its set
pub item_filed : (xs : List ℕ) (s : DerivativeSet) (n : ℕ) → ItemRead xs (derivatives s) n → set_with (word xs 0 % settings) s ≡ s
item_filed xs s n (ItemRead.for_derivatives {members} w c) =
    let f = filed_marks (word xs 0) in sym (set_marked xs xs (word xs 0 % settings) f.0 refl (sym f.1) (λ i z. refl) members)
