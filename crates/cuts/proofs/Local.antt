-- An item is its own words: it reads the same wherever it stands and whatever stands before it, and of what follows only the kind of the
-- next word matters. Assumes nothing.
use Prim.Native.Nat.{ℕ, ◌+◌, ◌-◌, ◌≤◌, ◌<◌}
use mathlib.Core.Path.{◌≡◌, refl, sym, ◌∙◌, ap}
use mathlib.Core.Bool.{Bool, false, ◌||◌}
use mathlib.Core.List.{List, map, map-id, map_congr_left}
use native.Mathlib.Omega.{arith}
use lib.ListN.{length, take, length-take}
use lib.Seq.{get_or-take, length-take-le}
use Rattle.rules.specs.Word.{word, kind_of}
use Rattle.rules.specs.Book.{Member, trade, written, basket, FinancingTrade, Item, Placed}
use Rattle.rules.specs.Read.{asset_at, derivative_set_at, financing_trade_at, financing_set_at, off_balance_at}
use Rattle.rules.proofs.Lists.{or_left, or_right}
use Rattle.cuts.proofs.Chains.{Cut, chain_onward}
use Rattle.cuts.proofs.Records.{NoneOf, is_cover, is_member, runs_on, MemberRead, member_onward, is_financing_trade, FinancingTradeRead, financing_trade_onward, ItemRead, item_onward, financing_trade_fault_at, asset_fault_at, derivative_set_fault_at, financing_set_fault_at, off_balance_fault_at}
use Rattle.cuts.proofs.Cutting.{ItemHere, EndHere, here_kind, test_item}
use Rattle.cuts.proofs.Moved.{moved_cover, moved_member, Stretch, Follows, whole_moved, none_moved, chain_moved, member_moved}

-- at the same place
abbrev pub stay : ℕ → ℕ
stay at = at

-- the first n words of both are the same
pub first_words : (n : ℕ) (xs ys : List ℕ) → n ≤ length xs → take n xs ≡ take n ys → Stretch stay xs ys 0 n
first_words n xs ys h e = record {
  within = h;
  there = omega (arith, length-take-le n xs h, ap length e, length-take n ys);
  even = λ at k l. refl;
  words = λ i l m. sym (get_or-take n xs i 0 m) ∙ ap (λ (ws : List ℕ). word ws i) e ∙ get_or-take n ys i 0 m;
}

-- a map that changes nothing
pub map_same : {A : Type 0} (f : A → A) → ((a : A) → f a ≡ a) → (l : List A) → map f l ≡ l
map_same f h l = map_congr_left {l = l} (λ a _. h a) ∙ map-id l

-- a member that is moved nowhere
pub member_stays : (m : Member) → moved_member stay m ≡ m
member_stays (trade t) = refl
member_stays (written w) = rw (map_same (moved_cover stay) (λ c. refl) w.covers)
member_stays (basket b) = refl

-- ---- what goes on with an item: covers, members, financing trades

pub data Inner : (ℕ → Bool) → Type 0 where
  covers : Inner is_cover
  members : Inner is_member
  trades : Inner is_financing_trade

-- neither an item nor the end does
pub here_goes_not : (ws : List ℕ) (at : ℕ) (p : Placed) (next : ℕ) → ItemHere ws at p next → NoneOf runs_on ws at
here_goes_not ws at p next h = rw (here_kind ws at p next h) (test_item runs_on false refl refl refl refl p.item)

-- nor does the end
pub end_goes_not : (ws : List ℕ) (at : ℕ) → EndHere ws at → NoneOf runs_on ws at
end_goes_not ws at e = rw e.of

-- what does not stand behind a stretch in the one does not in the other, be it a cover, a member or a financing trade
abbrev pub FollowsAll : (ℕ → ℕ) → List ℕ → List ℕ → ℕ → Type 0
FollowsAll move xs ys to = (test : ℕ → Bool) → Inner test → Follows test move xs ys to

-- so it is where both have a word of one kind there,
pub follows_kind : (move : ℕ → ℕ) (xs ys : List ℕ) (to : ℕ) → kind_of (word xs to) ≡ kind_of (word ys (move to)) → FollowsAll move xs ys to
follows_kind move xs ys to e test t f = rw (← e) f

-- and where nothing that goes on with an item stands there in the second
pub follows_none : (move : ℕ → ℕ) (xs ys : List ℕ) (to : ℕ) → NoneOf runs_on ys (move to) → FollowsAll move xs ys to
follows_none move xs ys to e test t f = go (kind_of (word ys (move to))) e t
  where
    go : (kind : ℕ) → runs_on kind ≡ false → {test : ℕ → Bool} → Inner test → test kind ≡ false
    go kind e covers = or_left (is_cover kind) _ (or_left (is_cover kind || is_member kind) _ e)
    go kind e members = or_right (is_cover kind) _ (or_left (is_cover kind || is_member kind) _ e)
    go kind e trades = or_right (is_cover kind || is_member kind) _ e

-- ---- an item

module _ (n : ℕ) (xs ys : List ℕ) (s : Stretch stay xs ys 0 n) (f : FollowsAll stay xs ys n) where
  at_word : (i : ℕ) → i < n → word xs i ≡ word ys i
  at_word i l = s.words i (omega arith) l

  cut_kept : {A : Type 0} {R S : ℕ → A → ℕ → Type 0} (test : ℕ → Bool) → Inner test → (g : A → A) → ((a : A) → g a ≡ a)
      → ((at : ℕ) (a : A) (next : ℕ) → R at a next → at < next) → ((at : ℕ) (a : A) (next : ℕ) → 0 ≤ at → next ≤ n → R at a next → S at (g a) next)
      → {at stop : ℕ} {l : List A} → stop ≤ n → Cut R (NoneOf test xs) at l stop → Cut S (NoneOf test ys) at l stop
  cut_kept {S = S} test t g same onward kept {at} {stop} {l} h c = record {
    chain = rw (map_same g same l) at (chain_moved s {S = S} g onward kept (omega arith) h c.chain);
    last = none_moved s test stop (omega arith) h (f test t) c.last;
  }

  financing_trade_kept : (at : ℕ) (t : FinancingTrade) (next : ℕ) → 0 ≤ at → next ≤ n → FinancingTradeRead xs at t next → FinancingTradeRead ys at t next
  unfolding financing_trade_at
  financing_trade_kept at t next z h (FinancingTradeRead.one r) =
      let agent = at_word 0 (omega arith) in
      let before = at_word (at - 1) (omega arith) in
      let x = at_word at (omega arith) in
      let a = at_word (at + 1) (omega arith) in
      let b = at_word (at + 2) (omega arith) in
      let c = at_word (at + 3) (omega arith) in
      let d = at_word (at + 4) (omega arith) in
      let e = at_word (at + 5) (omega arith) in
      let g = at_word (at + 6) (omega arith) in
      let i = at_word (at + 7) (omega arith) in
      let k = whole_moved s 9 (financing_trade_fault_at xs at) (financing_trade_fault_at ys at) at z (omega arith) (rw (agent, before, x, a, b, c, d, e, g, i)) r in
      rw (x, a, b, c, d, e, g, i) (FinancingTradeRead.one k)

  -- AN ITEM IS ITS OWN WORDS
  pub item_kept : (i : Item) (m : ℕ) → m ≤ n → ItemRead xs i m → ItemRead ys i m
  unfolding asset_at derivative_set_at financing_set_at off_balance_at
  item_kept i m h (ItemRead.of_asset w) =
      let x = at_word 0 (omega arith) in
      let a = at_word 1 (omega arith) in
      let b = at_word 2 (omega arith) in
      let c = at_word 3 (omega arith) in
      let k = whole_moved s 2 (asset_fault_at xs) (asset_fault_at ys) 0 (omega arith) (omega arith) (rw (x, a, b, c)) w in
      rw (x, a, b, c) (ItemRead.of_asset k)
  item_kept i m h (ItemRead.for_derivatives w cut) =
      let onward : (at : ℕ) (m : Member) (next : ℕ) → MemberRead xs at m next → at < next = λ at m next r. (member_onward xs at m next r).0 in
      let o = chain_onward onward cut.chain in
      let x = at_word 0 (omega arith) in
      let a = at_word 1 (omega arith) in
      let b = at_word 2 (omega arith) in
      let c = at_word 3 (omega arith) in
      let k = whole_moved s 4 (derivative_set_fault_at xs) (derivative_set_fault_at ys) 0 (omega arith) (omega arith) (rw (x, a, b, c)) w in
      rw (x, a, b, c) (ItemRead.for_derivatives k (cut_kept is_member Inner.members (moved_member stay) member_stays onward (member_moved s (f is_cover Inner.covers)) (omega arith) cut))
  item_kept i m h (ItemRead.for_financing w cut) =
      let onward : (at : ℕ) (t : FinancingTrade) (next : ℕ) → FinancingTradeRead xs at t next → at < next = λ at t next r. (financing_trade_onward xs at t next r).0 in
      let o = chain_onward onward cut.chain in
      let x = at_word 0 (omega arith) in
      let k = whole_moved s 8 (financing_set_fault_at xs) (financing_set_fault_at ys) 0 (omega arith) (omega arith) (rw x) w in
      rw x (ItemRead.for_financing k (cut_kept is_financing_trade Inner.trades (λ t. t) (λ t. refl) onward financing_trade_kept (omega arith) cut))
  item_kept i m h (ItemRead.for_off_balance w) =
      let x = at_word 0 (omega arith) in
      let a = at_word 1 (omega arith) in
      let k = whole_moved s 10 (off_balance_fault_at xs) (off_balance_fault_at ys) 0 (omega arith) (omega arith) (rw (x, a)) w in
      rw (x, a) (ItemRead.for_off_balance k)

-- so n words that read as an item do so in another book, if what stands behind them there does not go on with it
pub item_local : (n : ℕ) (xs ys : List ℕ) (i : Item) → ItemRead xs i n → take n xs ≡ take n ys → NoneOf runs_on ys n → ItemRead ys i n
item_local n xs ys i r t e = item_kept n xs ys (first_words n xs ys (item_onward xs i n r).1 t) (follows_none stay xs ys n e) i n (omega arith) r
