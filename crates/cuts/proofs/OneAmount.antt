-- Two books that are read without a fault and are equal but for one word, an amount in both: they are cut alike, every record that the word
-- does not stand in is the same, and the one that it stands in is read from its own words in each. Assumes nothing.
use Prim.Native.Nat.{ℕ, suc, ◌+◌, ◌-◌, ◌≤◌, ◌<◌}
use mathlib.Core.Path.{◌≡◌, refl, sym, ◌∙◌, ap}
use mathlib.Core.Bool.{false}
use mathlib.Core.List.{List}
use native.Mathlib.Omega.{arith}
use native.Mathlib.Decide.{ℕ_discrete, dec_lt}
use borrow.Author.Tests.{eqb-false}
use lib.Dec.{eqb}
use lib.ListN.{length, drop, length-drop}
use lib.Seq.{get_or-drop}
use Rattle.rules.specs.Word.{word, kind_of, names_in}
use Rattle.rules.specs.Book.{Cover, Member, written, FinancingTrade, Item, derivatives, Placed}
use Rattle.rules.specs.Run.{Turn, over, some}
use Rattle.rules.specs.Read.{first_record, head_of, written_at, derivative_set_at, financing_trade_at, items_of}
use Rattle.cuts.specs.Words.{Shape, Wordwise, OneAmount}
use Rattle.cuts.proofs.Shape.{shape_itself, kind_shape}
use Rattle.cuts.proofs.Chains.{Chain, Cut, chain_onward}
use Rattle.cuts.proofs.Records.{NoneOf, is_cover, CoverRead, cover_made, cover_over_lem, cover_onward, is_member, MemberRead, member_made, member_over, member_onward, is_financing_trade, FinancingTradeRead, financing_trade_made, financing_trade_over, financing_trade_onward, ItemRead}
use Rattle.cuts.proofs.Cutting.{ItemHere, EndHere, item_not_end, items_begin, here_made, here_onward, book_cut}
use Rattle.cuts.proofs.Moved.{Stretch, cover_moved, member_moved}
use Rattle.cuts.proofs.Local.{stay, member_stays, follows_kind}
use Rattle.cuts.proofs.Changed.{head_same, here_moved}
pub use Rattle.cuts.proofs.OtherRecords.{CoverOther, MemberOther, FinancingTradeOther, ItemOther, PlacedOther}
use Rattle.cuts.proofs.Steps.{OneOther, Steps, chains_same, chains_other}

-- two books that are equal but for one amount have one shape
pub amount_shape : {xs ys : List ℕ} {k : ℕ} → OneAmount xs ys k → Wordwise Shape xs ys
amount_shape {xs} {ys} {k} o = record { long = o.long; at = λ i. go i (ℕ_discrete i k) }
  where
    go : (i : ℕ) → Dec (i ≡ k) → Shape (word xs i) (word ys i)
    go i (yes p) = rw p (kind_shape (word xs k) (word ys k) (o.first ∙ sym o.second) (λ e. omega (arith, o.first)))
    go i (no p) = rw (o.others i p) (shape_itself (word ys i))

-- from any place before that word on they are equal but for one amount again
pub one_behind : {xs ys : List ℕ} {k : ℕ} (at : ℕ) → at ≤ k → OneAmount xs ys k → OneAmount (drop at xs) (drop at ys) (k - at)
one_behind {xs} {ys} {k} at h o =
    let e : at + (k - at) ≡ k = omega arith in
    record {
      long = length-drop at xs ∙ ap (λ (n : ℕ). n - at) o.long ∙ sym (length-drop at ys);
      there = omega (arith, length-drop at xs, o.there);
      first = rw (get_or-drop at xs (k - at) 0, e) o.first;
      second = rw (get_or-drop at ys (k - at) 0, e) o.second;
      others = λ i n. get_or-drop at xs i 0 ∙ o.others (at + i) (λ z. n (omega arith)) ∙ sym (get_or-drop at ys i 0);
    }

-- ---- so they are read

-- at one place one thing is read
once : {A : Type 0} {t : Turn A} {a b : A} {next next' : ℕ} → t ≡ some a 0 next → t ≡ some b 0 next' → (a ≡ b) × (next ≡ next')
once e f = (cc, cc)

-- nothing is read where nothing more follows
not_over : {A : Type 0} {t : Turn A} {a : A} {next : ℕ} → t ≡ over → t ≡ some a 0 next → ⊥
not_over e f = let z : ◌≡◌ {A = ℕ} 0 1 = cc in omega arith

module _ {xs ys : List ℕ} {k : ℕ} (o : OneAmount xs ys k) where
  kinds : (i : ℕ) → kind_of (word xs i) ≡ kind_of (word ys i)
  kinds i = ((amount_shape o).at i).kind

  -- a stretch that the word does not stand in
  untouched : (from to : ℕ) → to ≤ length xs → (from ≤ k → to ≤ k) → Stretch stay xs ys from to
  untouched from to h n = record { within = h; there = omega (arith, o.long); even = λ at j l. refl; words = λ i l m. o.others i (λ z. omega (arith, n (omega arith))) }

  -- a word of another kind than 0 stands elsewhere
  not_there : (at : ℕ) {kind : ℕ} → kind_of (word xs at) ≡ suc kind → at ≡ k → ⊥
  not_there at {kind} e z = let q : suc kind ≡ 0 = sym e ∙ ap (λ (i : ℕ). kind_of (word xs i)) z ∙ o.first in omega arith

  behind_it : (at : ℕ) {kind : ℕ} → kind_of (word xs at) ≡ suc kind → at ≤ k → at < k
  behind_it at e h = go (ℕ_discrete at k)
    where
      go : Dec (at ≡ k) → at < k
      go (yes p) = absurd (not_there at e p)
      go (no p) = omega arith

  clash : {X : Type 0} (at i j : ℕ) → kind_of (word xs at) ≡ i → kind_of (word ys at) ≡ j → eqb i j ≡ false → X
  clash at i j p q e = absurd (eqb-false i j e (sym p ∙ kinds at ∙ q))

  -- ---- covers

  cover_steps : Steps (CoverRead xs) (CoverRead ys) (NoneOf is_cover xs) (NoneOf is_cover ys) (CoverOther xs ys k) k
  cover_steps = record {
    onward = λ at c next r. (cover_onward xs at c next r).0;
    same = λ at c d next next' h r s.
        let w = cover_onward xs at c next r in
        once (cover_made ys at c next (cover_moved (untouched at next w.1 h) at c next (omega arith) (omega arith) r)) (cover_made ys at d next' s);
    step = λ at c d next next' h l r s. step at c d next next' r s;
    first_ends = λ at c next e s. not_over (cover_over_lem ys at (rw (← kinds at) e)) (cover_made ys at c next s);
    second_ends = λ at c next e r. not_over (cover_over_lem xs at (rw (kinds at) e)) (cover_made xs at c next r);
  }
    where
      step : (at : ℕ) (c d : Cover) (next next' : ℕ) → CoverRead xs at c next → CoverRead ys at d next' → (next ≡ next') × CoverOther xs ys k at c d next
      step at c d next next' (CoverRead.one w) (CoverRead.one v) = (refl, CoverOther.covers)

  -- ---- members

  credit_step : (at stop stop' : ℕ) (cs ds : List Cover) → k < stop → Cut (CoverRead xs) (NoneOf is_cover xs) (at + 6) cs stop → Cut (CoverRead ys) (NoneOf is_cover ys) (at + 6) ds stop'
      → (stop ≡ stop') × MemberOther xs ys k at (written (written_at xs at cs)) (written (written_at ys at ds)) stop
  credit_step at stop stop' cs ds l c d = go (dec_lt k (at + 6))
    where
      go : Dec (k < at + 6) → (stop ≡ stop') × MemberOther xs ys k at (written (written_at xs at cs)) (written (written_at ys at ds)) stop
      go (yes p) = let q = chains_same cover_steps p c.chain c.last d.chain d.last in (q.1, rw (← q.0) (MemberOther.credits cs p))
      go (no p) = let q = chains_other cover_steps (omega arith) l c.chain c.last d.chain d.last in (q.0, MemberOther.covers q.1)

  member_step : (at : ℕ) (m n : Member) (next next' : ℕ) → at ≤ k → k < next → MemberRead xs at m next → MemberRead ys at n next' → (next ≡ next') × MemberOther xs ys k at m n next
  member_step at m n next next' h l (MemberRead.of_trade w) (MemberRead.of_trade v) = (refl, MemberOther.trades)
  member_step at m n next next' h l (MemberRead.of_trade w) (MemberRead.of_credit v d) = clash at 5 6 w.of v.of refl
  member_step at m n next next' h l (MemberRead.of_trade w) (MemberRead.of_basket v) = clash at 5 11 w.of v.of refl
  member_step at m n next next' h l (MemberRead.of_credit w c) (MemberRead.of_trade v) = clash at 6 5 w.of v.of refl
  member_step at m n next next' h l (MemberRead.of_credit {covers = cs} w c) (MemberRead.of_credit {covers = ds} v d) = credit_step at next next' cs ds l c d
  member_step at m n next next' h l (MemberRead.of_credit w c) (MemberRead.of_basket v) = clash at 6 11 w.of v.of refl
  member_step at m n next next' h l (MemberRead.of_basket w) (MemberRead.of_trade v) = clash at 11 5 w.of v.of refl
  member_step at m n next next' h l (MemberRead.of_basket w) (MemberRead.of_credit v d) = clash at 11 6 w.of v.of refl
  member_step at m n next next' h l (MemberRead.of_basket w) (MemberRead.of_basket v) =
      (ap (λ (x : ℕ). at + suc (names_in x + 2)) (o.others at (not_there at w.of)), MemberOther.baskets)

  member_steps : Steps (MemberRead xs) (MemberRead ys) (NoneOf is_member xs) (NoneOf is_member ys) (MemberOther xs ys k) k
  member_steps = record {
    onward = λ at m next r. (member_onward xs at m next r).0;
    same = λ at m n next next' h r s.
        let w = member_onward xs at m next r in
        let same = member_moved (untouched at next w.1 h) (λ e. rw (← kinds next) e) at m next (omega arith) (omega arith) r in
        once (member_made ys at m next (rw (member_stays m) at same)) (member_made ys at n next' s);
    step = member_step;
    first_ends = λ at m next e s. not_over (member_over ys at (rw (← kinds at) e)) (member_made ys at m next s);
    second_ends = λ at m next e r. not_over (member_over xs at (rw (kinds at) e)) (member_made xs at m next r);
  }

  -- ---- financing trades: of two that do not hold the word the words are the same, though a trade's causes look at the days before it

  financing_same : (at : ℕ) (t u : FinancingTrade) (next next' : ℕ) → (at ≤ k → next ≤ k) → FinancingTradeRead xs at t next → FinancingTradeRead ys at u next' → (t ≡ u) × (next ≡ next')
  unfolding financing_trade_at
  financing_same at t u next next' h (FinancingTradeRead.one w) (FinancingTradeRead.one v) =
      let x = o.others at (λ z. omega (arith, h (omega arith))) in
      let is : (j : ℕ) → j < 8 → word xs (at + j) ≡ word ys (at + j) = λ j l. o.others (at + j) (λ z. omega (arith, h (omega arith))) in
      (rw (x, is 1 (omega arith), is 2 (omega arith), is 3 (omega arith), is 4 (omega arith), is 5 (omega arith), is 6 (omega arith), is 7 (omega arith)), refl)

  financing_steps : Steps (FinancingTradeRead xs) (FinancingTradeRead ys) (NoneOf is_financing_trade xs) (NoneOf is_financing_trade ys) (FinancingTradeOther xs ys k) k
  financing_steps = record {
    onward = λ at t next r. (financing_trade_onward xs at t next r).0;
    same = financing_same;
    step = λ at t u next next' h l r s. step at t u next next' r s;
    first_ends = λ at t next e s. not_over (financing_trade_over ys at (rw (← kinds at) e)) (financing_trade_made ys at t next s);
    second_ends = λ at t next e r. not_over (financing_trade_over xs at (rw (kinds at) e)) (financing_trade_made xs at t next r);
  }
    where
      step : (at : ℕ) (t u : FinancingTrade) (next next' : ℕ) → FinancingTradeRead xs at t next → FinancingTradeRead ys at u next' → (next ≡ next') × FinancingTradeOther xs ys k at t u next
      step at t u next next' (FinancingTradeRead.one w) (FinancingTradeRead.one v) = (refl, FinancingTradeOther.trades)

  -- ---- items

  set_step : (n m : ℕ) (l l' : List Member) → k < n → Cut (MemberRead xs) (NoneOf is_member xs) 4 l n → Cut (MemberRead ys) (NoneOf is_member ys) 4 l' m
      → (n ≡ m) × ItemOther xs ys k (derivatives (derivative_set_at xs l)) (derivatives (derivative_set_at ys l')) n
  set_step n m l l' h c d = go (dec_lt k 4)
    where
      go : Dec (k < 4) → (n ≡ m) × ItemOther xs ys k (derivatives (derivative_set_at xs l)) (derivatives (derivative_set_at ys l')) n
      go (yes p) = let q = chains_same member_steps p c.chain c.last d.chain d.last in (q.1, rw (← q.0) (ItemOther.sets l p))
      go (no p) = let q = chains_other member_steps (omega arith) h c.chain c.last d.chain d.last in (q.0, ItemOther.members q.1)

  item_step_lem : (i j : Item) (n m : ℕ) → k < n → ItemRead xs i n → ItemRead ys j m → (n ≡ m) × ItemOther xs ys k i j n
  item_step_lem i j n m h (ItemRead.of_asset w) (ItemRead.of_asset v) = (refl, ItemOther.assets)
  item_step_lem i j n m h (ItemRead.of_asset w) (ItemRead.for_derivatives v d) = clash 0 2 4 w.of v.of refl
  item_step_lem i j n m h (ItemRead.of_asset w) (ItemRead.for_financing v d) = clash 0 2 8 w.of v.of refl
  item_step_lem i j n m h (ItemRead.of_asset w) (ItemRead.for_off_balance v) = clash 0 2 10 w.of v.of refl
  item_step_lem i j n m h (ItemRead.for_derivatives w c) (ItemRead.of_asset v) = clash 0 4 2 w.of v.of refl
  item_step_lem i j n m h (ItemRead.for_derivatives {members = l} w c) (ItemRead.for_derivatives {members = l'} v d) = set_step n m l l' h c d
  item_step_lem i j n m h (ItemRead.for_derivatives w c) (ItemRead.for_financing v d) = clash 0 4 8 w.of v.of refl
  item_step_lem i j n m h (ItemRead.for_derivatives w c) (ItemRead.for_off_balance v) = clash 0 4 10 w.of v.of refl
  item_step_lem i j n m h (ItemRead.for_financing w c) (ItemRead.of_asset v) = clash 0 8 2 w.of v.of refl
  item_step_lem i j n m h (ItemRead.for_financing w c) (ItemRead.for_derivatives v d) = clash 0 8 4 w.of v.of refl
  item_step_lem i j n m h (ItemRead.for_financing w c) (ItemRead.for_financing v d) =
      let l : 1 ≤ k = behind_it 0 w.of (omega arith) in
      let q = chains_other financing_steps l h c.chain c.last d.chain d.last in (q.0, ItemOther.financings q.1)
  item_step_lem i j n m h (ItemRead.for_financing w c) (ItemRead.for_off_balance v) = clash 0 8 10 w.of v.of refl
  item_step_lem i j n m h (ItemRead.for_off_balance w) (ItemRead.of_asset v) = clash 0 10 2 w.of v.of refl
  item_step_lem i j n m h (ItemRead.for_off_balance w) (ItemRead.for_derivatives v d) = clash 0 10 4 w.of v.of refl
  item_step_lem i j n m h (ItemRead.for_off_balance w) (ItemRead.for_financing v d) = clash 0 10 8 w.of v.of refl
  item_step_lem i j n m h (ItemRead.for_off_balance w) (ItemRead.for_off_balance v) = (refl, ItemOther.commitments)

module _ {xs ys : List ℕ} {k : ℕ} (o : OneAmount xs ys k) where
  here_step : (at : ℕ) (p q : Placed) (next next' : ℕ) → at ≤ k → k < next → ItemHere xs at p next → ItemHere ys at q next' → (next ≡ next') × PlacedOther xs ys k at p q next
  here_step at p q next next' h l (ItemHere.here {i} {n} r) (ItemHere.here {i = j} {n = m} s) =
      let t = item_step_lem (one_behind at h o) i j n m (omega arith) r s in
      (ap (λ (x : ℕ). at + x) t.0, rw (← t.0) (PlacedOther.here t.1))

  item_steps : Steps (ItemHere xs) (ItemHere ys) (EndHere xs) (EndHere ys) (PlacedOther xs ys k) k
  item_steps = record {
    onward = λ at p next r. (here_onward xs at p next r).0;
    same = λ at p q next next' h r s.
        let w = here_onward xs at p next r in
        once (here_made ys at p next (here_moved (untouched o at next w.1 h) (follows_kind stay xs ys next (kinds o next)) at p next (omega arith) (omega arith) r)) (here_made ys at q next' s);
    step = here_step;
    first_ends = λ at p next e s. item_not_end ys at p next s (sym (kinds o at) ∙ e.of);
    second_ends = λ at p next e r. item_not_end xs at p next r (kinds o at ∙ e.of);
  }

  -- ONE AMOUNT OTHER, before the items: they are all the same, if as many protections stand before them
  pub items_same : (items_of xs).number ≡ 0 → (items_of ys).number ≡ 0 → items_begin xs ≡ items_begin ys → k < items_begin xs → (items_of xs).records ≡ (items_of ys).records
  items_same e f b h =
      let c = book_cut xs e in
      let d = book_cut ys f in
      let i : Chain (ItemHere ys) (items_begin xs) (items_of ys).records (items_of ys).place = rw b d.items in
      (chains_same item_steps h c.items c.end i d.end).0

  -- ONE AMOUNT OTHER, in an item: the books have the same head, end at the same place, and all items but that one are the same
  pub items_other : (items_of xs).number ≡ 0 → (items_of ys).number ≡ 0 → items_begin xs ≤ k
      → (head_of xs ≡ head_of ys) × ((items_of xs).place ≡ (items_of ys).place) × OneOther (ItemHere xs) (ItemHere ys) (PlacedOther xs ys k) k (items_begin xs) (items_of xs).records (items_of ys).records
  items_other e f h =
      let c = book_cut xs e in
      let d = book_cut ys f in
      let n = chain_onward (λ at p next r. (here_onward xs at p next r).0) c.items in
      let z : k < (items_of xs).place = before_end c.end in
      let t = head_same xs ys first_record (untouched o 0 first_record (omega (arith, c.end.last)) (λ _. omega arith)) (omega arith) in
      let i : Chain (ItemHere ys) (items_begin xs) (items_of ys).records (items_of ys).place = rw t d.items in
      let q = chains_other item_steps h z c.items c.end i d.end in
      (t, q.0, q.1)
    where
      before_end : EndHere xs (items_of xs).place → k < (items_of xs).place
      before_end w = go (ℕ_discrete (items_of xs).place k)
        where
          go : Dec ((items_of xs).place ≡ k) → k < (items_of xs).place
          go (yes p) = absurd (not_there o (items_of xs).place w.of p)
          go (no p) = omega (arith, w.last, o.there)
