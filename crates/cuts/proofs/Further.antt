-- A book and the same one with further covers put in: the same head, the same protections, and items that are equal but for further covers
-- of written credits, and but for places. What is read of the second is taken apart, and the first is read beside it. Assumes nothing.
use Prim.Native.Nat.{ℕ, suc, ◌+◌}
use mathlib.Core.Path.{◌≡◌, refl, sym, ◌∙◌}
use mathlib.Core.Logic.{◌⊎◌, inl, inr}
use mathlib.Core.Bool.{false, ◌||◌}
use mathlib.Core.List.{List, [], ◌∷◌}
use native.Mathlib.Omega.{arith}
use lib.ListN.{length, drop}
use lib.Seq.{get_or-drop, drop-drop}
use Rattle.rules.specs.Word.{word, kind_of, names_in}
use Rattle.rules.specs.Book.{Protection, Cover, Member, FinancingTrade, Item, Placed}
use Rattle.rules.specs.Read.{first_record, head_faulty, date_faulty, head_of, cover_at, written_at, derivative_set_at, protections_of, items_of}
use Rattle.rules.proofs.Lists.{Pairs, or_left}
use Rattle.cuts.proofs.Chains.{Chain, Cut}
use Rattle.cuts.proofs.Records.{NoneOf, is_cover, CoverRead, is_member, runs_on, MemberRead, FinancingTradeRead, ItemRead, ProtectionRead, written_fault_at, derivative_set_fault_at}
use Rattle.cuts.proofs.Cutting.{ItemHere, item_not_end, items_begin, here_made, book_cut, cut_protections}
use Rattle.cuts.proofs.Moved.{moved_member, word_on, whole_moved, cover_moved, member_moved}
use Rattle.cuts.proofs.Local.{stay, follows_kind, item_kept, here_goes_not, end_goes_not}
use Rattle.cuts.proofs.Changed.{member_no_cover, head_same, protections_same}
use Rattle.cuts.specs.Words.{Inserted}
use Rattle.cuts.specs.Further.{covered_by, memberless, MemberByCredits, ItemByCredits, PlacedByCredits, MoreCovers, FurtherCredit, FurtherBook}
use Rattle.cuts.proofs.SameWords.{Plain, plain_append, whole_plain, chain_plain, head_plain, same_first, From, kind_beside, shift, Shifted, whole_beside, cover_beside}

-- ---- what is read of the second, and the first beside it

-- what is read of the first from i on up to `end`, beside b that is read of the second up to `next`
record Beside (xs ys : List ℕ) {A : Type 0} (R : ℕ → A → ℕ → Type 0) (Rel : A → A → Type 0) (i : ℕ) (b : A) (next : ℕ) : Type 0 where
  pub first : A
  pub end : ℕ
  pub read : R i first end
  pub more : Rel first b
  pub rest : From xs ys end next

-- each record of the second has one beside it, unless a cover stands behind it
abbrev EachBeside : (xs ys : List ℕ) {A : Type 0} (R S : ℕ → A → ℕ → Type 0) (Rel : A → A → Type 0) → Type 0
EachBeside xs ys {A} R S Rel = (i j : ℕ) (b : A) (next : ℕ) → S j b next → NoneOf is_cover ys next → From xs ys i j → Beside xs ys R Rel i b next

-- so records one after the other do, if none begins with a cover and none stands behind them
module _ (xs ys : List ℕ) {A : Type 0} {R S : ℕ → A → ℕ → Type 0} {Rel : A → A → Type 0} (begins : (j : ℕ) (b : A) (next : ℕ) → S j b next → NoneOf is_cover ys j)
    (step : EachBeside xs ys R S Rel) where
  chain_begins : {j stop : ℕ} {m : List A} → Chain S j m stop → NoneOf is_cover ys stop → NoneOf is_cover ys j
  chain_begins Chain.done e = e
  chain_begins (Chain.then {at = j} {next} {a = b} s c) e = begins j b next s

  chain_beside : {j stop : ℕ} {m : List A} → Chain S j m stop → NoneOf is_cover ys stop → (i : ℕ) → From xs ys i j → Beside xs ys (Chain R) (Pairs Rel) i m stop
  chain_beside Chain.done e i r = record { first = []; end = i; read = Chain.done; more = Pairs.none; rest = r }
  chain_beside (Chain.then {at = j} {next} {a = b} s c) e i r =
      let p = step i j b next s (chain_begins c e) r in
      let q = chain_beside c e p.end p.rest in
      record { first = p.first ∷ q.first; end = q.end; read = Chain.then p.read q.read; more = Pairs.more p.more q.more; rest = q.rest }

-- ---- covers and members

module _ (xs ys : List ℕ) where
  -- a run of covers
  abbrev CoversBeside : ℕ → List Cover → ℕ → Type 0
  CoversBeside = Beside xs ys (Cut (CoverRead xs) (NoneOf is_cover xs)) MoreCovers

  -- one more cover of the second
  cover_more : {j next stop : ℕ} {d : Cover} {ds : List Cover} → CoverRead ys j d next → ((i : ℕ) → From xs ys i next → CoversBeside i ds stop)
      → (i : ℕ) → From xs ys i j → CoversBeside i (d ∷ ds) stop
  cover_more {j} {stop} {ds} (CoverRead.one w) others i r = go (cover_beside _ xs ys i j w r)
    where
      go : Shifted 2 xs ys i j ⊎ From xs ys i (j + 2) → CoversBeside i (cover_at ys j ∷ ds) stop
      go (inl s) =
          let a : shift i j j ≡ i = omega arith in
          let b : shift i j (j + 2) ≡ i + 2 = omega arith in
          let c = rw (a, b) at (cover_moved s.words j _ _ (omega arith) (omega arith) (CoverRead.one w)) in
          let q = others (i + 2) s.rest in
          record { first = _; end = q.end; read = record { chain = Chain.then c q.read.chain; last = q.read.last }; more = MoreCovers.both refl refl q.more; rest = q.rest }
      go (inr p) = let q = others i p in record { first = q.first; end = q.end; read = q.read; more = MoreCovers.further q.more; rest = q.rest }

  covers_beside : {j stop : ℕ} {ds : List Cover} → Chain (CoverRead ys) j ds stop → NoneOf is_cover ys stop → (i : ℕ) → From xs ys i j → CoversBeside i ds stop
  covers_beside (Chain.done {at = j}) e i r = record { first = []; end = i; read = record { chain = Chain.done; last = rw (kind_beside xs ys i j r e) e }; more = MoreCovers.none; rest = r }
  covers_beside (Chain.then c t) e i r = cover_more c (λ k q. covers_beside t e k q) i r

  -- a trade or a basket
  kept_member : (n i j : ℕ) (m : Member) → MemberRead ys j m (j + suc n) → MemberByCredits FurtherCredit (moved_member (shift i j) m) m → Shifted (suc n) xs ys i j
      → Beside xs ys (MemberRead xs) (MemberByCredits FurtherCredit) i m (j + suc n)
  kept_member n i j m c t s =
      let a : shift i j j ≡ i = omega arith in
      let b : shift i j (j + suc n) ≡ i + suc n = omega arith in
      let d = member_moved s.words (λ e. rw (b, kind_beside xs ys (i + suc n) (j + suc n) s.rest e) e) j m (j + suc n) (omega arith) (omega arith) c in
      record { first = _; end = _; read = rw (a, b) at d; more = t; rest = s.rest }

  member_beside : EachBeside xs ys (MemberRead xs) (MemberRead ys) (MemberByCredits FurtherCredit)
  unfolding written_at
  member_beside i j m next (MemberRead.of_trade w) e r = kept_member 4 i j _ (MemberRead.of_trade w) MemberByCredits.of_trade (whole_beside 5 _ xs ys i j w refl r)
  member_beside i j m next (MemberRead.of_basket w) e r =
      kept_member (names_in (word ys j) + 2) i j _ (MemberRead.of_basket w) MemberByCredits.of_basket (whole_beside 11 _ xs ys i j w refl r)
  member_beside i j m next (MemberRead.of_credit {covers} w cut) e r =
      let s = whole_beside 6 _ xs ys i j w refl r in
      let z : shift i j j ≡ i = omega arith in
      let x = rw z at (s.words.words j (omega arith) (omega arith)) in
      let a = rw z at (word_on s.words j 1 (omega arith) (omega arith)) in
      let b = rw z at (word_on s.words j 2 (omega arith) (omega arith)) in
      let c = rw z at (word_on s.words j 3 (omega arith) (omega arith)) in
      let d = rw z at (word_on s.words j 4 (omega arith) (omega arith)) in
      let g = rw z at (word_on s.words j 5 (omega arith) (omega arith)) in
      let k = rw z at (whole_moved s.words 6 (written_fault_at ys j) (written_fault_at xs i) j (omega arith) (omega arith) (rw (x, a, b, c, d, g)) w) in
      let q = covers_beside cut.chain cut.last (i + 6) s.rest in
      let l : covered_by [] (written_at xs i q.first) ≡ covered_by [] (written_at ys j covers) = rw (x, a, b, c, d, g) in
      record { first = _; end = q.end; read = MemberRead.of_credit k q.read; more = MemberByCredits.of_credit (record { alike = l; covers = q.more }); rest = q.rest }

-- ---- items, in words of their own

-- no word of a financing trade or of a protection is of a kind in which the two books may differ
pub financing_trade_plain : (ws : List ℕ) (at : ℕ) (t : FinancingTrade) (next : ℕ) → FinancingTradeRead ws at t next → Plain ws at next
financing_trade_plain ws at t next (FinancingTradeRead.one w) = whole_plain 9 _ ws at w refl

pub protection_plain : (ws : List ℕ) (at : ℕ) (p : Protection) (next : ℕ) → ProtectionRead ws at p next → Plain ws at next
protection_plain ws at p next (ProtectionRead.one w) = whole_plain 3 _ ws at w refl

module _ (u v : List ℕ) where
  abbrev ItemBeside : Item → ℕ → Type 0
  ItemBeside = Beside u v (λ (_ : ℕ). ItemRead u) (ItemByCredits FurtherCredit) 0

  -- an item that is no derivative set
  kept_item : (i : Item) (n : ℕ) → ItemRead v i n → NoneOf is_cover v n → Inserted u v → Plain v 0 n → ItemBeside i n
  kept_item i n h e r p =
      let f = same_first n r p in
      let k = follows_kind stay v u n (sym (kind_beside u v n n f.rest e)) in
      record { first = i; end = n; read = item_kept n v u f.words k i n (omega arith) h; more = ItemByCredits.same; rest = f.rest }

  item_beside : (i : Item) (n : ℕ) → ItemRead v i n → NoneOf is_cover v n → Inserted u v → ItemBeside i n
  unfolding derivative_set_at
  item_beside i n (ItemRead.of_asset w) e r = kept_item i n (ItemRead.of_asset w) e r (whole_plain 2 _ v 0 w refl)
  item_beside i n (ItemRead.for_off_balance w) e r = kept_item i n (ItemRead.for_off_balance w) e r (whole_plain 10 _ v 0 w refl)
  item_beside i n (ItemRead.for_financing w c) e r =
      kept_item i n (ItemRead.for_financing w c) e r (plain_append v 0 1 n (whole_plain 8 _ v 0 w refl) (chain_plain v (financing_trade_plain v) c.chain))
  item_beside i n (ItemRead.for_derivatives {members} w cut) e r =
      let f = same_first 4 r (whole_plain 4 _ v 0 w refl) in
      let q = chain_beside u v (member_no_cover v) (member_beside u v) cut.chain e 4 f.rest in
      let x = f.words.words 0 (omega arith) (omega arith) in
      let a = f.words.words 1 (omega arith) (omega arith) in
      let b = f.words.words 2 (omega arith) (omega arith) in
      let c = f.words.words 3 (omega arith) (omega arith) in
      let k = whole_moved f.words 4 (derivative_set_fault_at v) (derivative_set_fault_at u) 0 (omega arith) (omega arith) (rw (x, a, b, c)) w in
      let l : memberless (derivative_set_at u q.first) ≡ memberless (derivative_set_at v members) = rw (x, a, b, c) in
      let o : NoneOf is_member u q.end = rw (kind_beside u v q.end n q.rest e) cut.last in
      record {
        first = _;
        end = q.end;
        read = ItemRead.for_derivatives k (record { chain = q.read; last = o });
        more = ItemByCredits.for_derivatives (record { alike = l; members = q.more });
        rest = q.rest;
      }

-- ---- books

-- an item where it stands
here_beside : (xs ys : List ℕ) → EachBeside xs ys (ItemHere xs) (ItemHere ys) (PlacedByCredits FurtherCredit)
here_beside xs ys i j q next (ItemHere.here {i = b} {n} h) e r =
    let p = item_beside (drop i xs) (drop j ys) b n h (rw (get_or-drop j ys n 0) e) r in
    record { first = _; end = _; read = ItemHere.here p.read; more = p.more; rest = rw (← drop-drop p.end i xs, ← drop-drop n j ys) p.rest }

-- what does not go on with an item is no cover
no_cover : (ws : List ℕ) (at : ℕ) → NoneOf runs_on ws at → NoneOf is_cover ws at
no_cover ws at e = or_left (is_cover (kind_of (word ws at))) _ (or_left (is_cover (kind_of (word ws at)) || is_member (kind_of (word ws at))) _ e)

-- items one after the other up to an end word can be read in one way only
items_only : (ws : List ℕ) {at stop end : ℕ} {l m : List Placed} → Chain (ItemHere ws) at l stop → kind_of (word ws stop) ≡ 15
    → Chain (ItemHere ws) at m end → kind_of (word ws end) ≡ 15 → l ≡ m
items_only ws Chain.done e Chain.done f = refl
items_only ws (Chain.done {at}) e (Chain.then {next} {a = p} h c) f = absurd (item_not_end ws at p next h e)
items_only ws (Chain.then {at} {next} {a = p} h c) e Chain.done f = absurd (item_not_end ws at p next h f)
items_only ws (Chain.then {at} {next} {a = p} h c) e (Chain.then {next = after} {a = q} i d) f =
    let t = sym (here_made ws at p next h) ∙ here_made ws at q after i in
    let y : p ≡ q = cc in
    let z : after ≡ next = cc in
    let r = items_only ws c e (rw z at d) f in cc

-- FURTHER COVERS: two books that are read without a fault, the second with covers put in, have the same head, the same protections, and items
-- that are equal but for these covers
pub further_covers : (xs ys : List ℕ) → Inserted xs ys → head_faulty ys ≡ false → date_faulty ys ≡ false → (items_of xs).number ≡ 0 → (items_of ys).number ≡ 0 → FurtherBook xs ys
further_covers xs ys r g d e f =
    let k = book_cut xs e in
    let c = book_cut ys f in
    let p = same_first (items_begin ys) r (plain_append ys 0 first_record (items_begin ys) (head_plain ys g d) (chain_plain ys (protection_plain ys) c.protections)) in
    let h = head_same ys xs (items_begin ys) p.words (omega arith) in
    let ps = protections_same ys xs (items_begin ys) p.words (omega arith) (omega arith) c.protections in
    let many : length (protections_of ys).records ≡ (head_of xs).protections = rw h at c.many in
    let own : Chain (ItemHere xs) (items_begin ys) (items_of xs).records (items_of xs).place = rw h k.items in
    let last = no_cover ys (items_of ys).place (end_goes_not ys _ c.end) in
    let q = chain_beside xs ys (λ j b next s. no_cover ys j (here_goes_not ys j b next s)) (here_beside xs ys) c.items last (items_begin ys) p.rest in
    let only = items_only xs q.read (kind_beside xs ys q.end (items_of ys).place q.rest last ∙ c.end.of) own k.end.of in
    record { head = sym h; protections = rw (cut_protections xs _ _ _ _ many ps own k.end); items = rw only at q.more }
