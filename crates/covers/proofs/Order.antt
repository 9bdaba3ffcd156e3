-- The order of draws, of a credit's covers, of a set's members and of a book's items is free: in another order they settle exactly where
-- they did, and leave the same. Assumes nothing.
use Prim.Native.Nat.{ℕ}
use mathlib.Core.Path.{◌≡◌, refl, sym, ◌∙◌, ap}
use mathlib.Core.List.{List, [], ◌∷◌, map}
use native.Mathlib.Omega.{arith}
use Rattle.rules.specs.declared.Bands.{Bands}
use Rattle.rules.specs.declared.Draw.{Draw}
use Rattle.rules.specs.declared.Entry.{Entry}
use Rattle.rules.specs.Book.{Cover, WrittenCredit, Member, Item, Placed}
use Rattle.rules.specs.Register.{draws_over, settled, settle}
use Rattle.rules.specs.Rows.{sum_over, sums_of}
use Rattle.covers.specs.Claims.{drawn_by, drawn_in, drawn_of, FitsIn, drawn_at, drawn_over, CoversFit, MemberCoversFit, ItemCoversFit}
use Rattle.covers.specs.Order.{Permuted, DrawAlike, DrawsInAnyOrder, CoverAlike, CreditAlike, MemberAlike, ItemAlike, PlacedAlike, CoversInAnyOrder, SameItem}
use Rattle.covers.proofs.Permuted.{permuted_total, permuted_every, permuted_sym, permuted_map, permuted_wider}
use Rattle.covers.proofs.Less.{less_same}
use Rattle.covers.proofs.Draws.{settle_iff}
use Rattle.covers.proofs.Books.{covers_iff}

-- ---- draws

draw_sym : (d e : Draw) → DrawAlike d e → DrawAlike e d
draw_sym d e a = record {
  entity = sym a.entity;
  rank = sym a.rank;
  days = sym a.days;
  room = sym a.room;
  protection = sym a.protection;
  amount = sym a.amount;
}

draws_settle : (entries : List Entry) (ds es : List Draw) (left : List Entry) → Permuted DrawAlike ds es
    → settle entries ds ≡ settled left → settle entries es ≡ settled left
draws_settle entries ds es left p z =
    let s = (settle_iff entries ds left).0 z in
    (settle_iff entries es left).1 (
      record { each = permuted_every fits p s.0.each; enough = λ i h. omega (arith, sums i, s.0.enough i h) },
      s.1 ∙ less_same entries _ _ sums,
    )
  where
    fits : (d e : Draw) → DrawAlike d e → FitsIn entries d → FitsIn entries e
    fits d e a f = rw (← a.protection, ← a.entity, ← a.rank, ← a.days, ← a.room, ← a.amount) f

    sums : (i : ℕ) → drawn_over ds i ≡ drawn_over es i
    sums i = permuted_total (drawn_at i) (λ d e a. rw (a.protection, a.amount)) p

-- in any order
pub draws_any_order : DrawsInAnyOrder
draws_any_order entries ds es left p = (draws_settle entries ds es left p, draws_settle entries es ds left (permuted_sym draw_sym p))

-- ---- alike is alike both ways

cover_sym : (c d : Cover) → CoverAlike c d → CoverAlike d c
cover_sym c d a = record { protection = sym a.protection; amount = sym a.amount }

credit_sym : (v w : WrittenCredit) → CreditAlike v w → CreditAlike w v
credit_sym v w a = record { entity = sym a.entity; rank = sym a.rank; days = sym a.days; room = sym a.room; covers = permuted_sym cover_sym a.covers }

member_sym : (m n : Member) → MemberAlike m n → MemberAlike n m
member_sym m n MemberAlike.same = MemberAlike.same
member_sym m n (MemberAlike.credits {v} {w} a) = MemberAlike.credits (credit_sym v w a)

item_sym : (x y : Item) → ItemAlike x y → ItemAlike y x
item_sym x y ItemAlike.same = ItemAlike.same
item_sym x y (ItemAlike.sets p) = ItemAlike.sets (permuted_sym member_sym p)

-- ---- what is alike fits alike, and draws alike

module _ (entries : List Entry) where
  credit_alike_fits : (v w : WrittenCredit) → CreditAlike v w → CoversFit entries v → CoversFit entries w
  credit_alike_fits v w a k = record {
    each = rw (← a.entity, ← a.rank, ← a.days) (permuted_every (λ c d e s. rw (← e.protection) s) a.covers k.each);
    within = omega (arith, permuted_total (λ (c : Cover). c.amount) (λ c d e. omega (arith, e.amount)) a.covers, k.within, a.room);
  }

  member_alike_fits : (m n : Member) → MemberAlike m n → MemberCoversFit entries m → MemberCoversFit entries n
  member_alike_fits m n MemberAlike.same k = k
  member_alike_fits m n (MemberAlike.credits {v} {w} a) k = credit_alike_fits v w a k

  item_alike_fits : (x y : Item) → ItemAlike x y → ItemCoversFit entries x → ItemCoversFit entries y
  item_alike_fits x y ItemAlike.same k = k
  item_alike_fits x y (ItemAlike.sets p) k = permuted_every member_alike_fits p k

module _ (i : ℕ) where
  member_drawn : (m n : Member) → MemberAlike m n → drawn_in i m ≡ drawn_in i n
  member_drawn m n MemberAlike.same = refl
  member_drawn m n (MemberAlike.credits a) = permuted_total (drawn_by i) (λ c d e. rw (e.protection, e.amount)) a.covers

  item_drawn : (x y : Item) → ItemAlike x y → drawn_of i x ≡ drawn_of i y
  item_drawn x y ItemAlike.same = refl
  item_drawn x y (ItemAlike.sets p) = permuted_total (drawn_in i) member_drawn p

-- ---- books

items_settle : (entries : List Entry) (ps qs : List Placed) (left : List Entry) → Permuted PlacedAlike ps qs
    → settle entries (draws_over ps) ≡ settled left → settle entries (draws_over qs) ≡ settled left
items_settle entries ps qs left a z =
    let s = (covers_iff entries ps left).0 z in
    (covers_iff entries qs left).1 (
      record { each = permuted_every (λ p q. item_alike_fits entries p.item q.item) a s.0.each; enough = λ i h. omega (arith, sums i, s.0.enough i h) },
      s.1 ∙ less_same entries _ _ sums,
    )
  where
    sums : (i : ℕ) → sum_over (drawn_of i) ps ≡ sum_over (drawn_of i) qs
    sums i = permuted_total (λ (p : Placed). drawn_of i p.item) (λ p q. item_drawn i p.item q.item) a

-- items alike settle alike, in whatever order and at whatever places they stand
pub items_any_order : CoversInAnyOrder
items_any_order entries ps qs left a = (items_settle entries ps qs left a, items_settle entries qs ps left (permuted_sym (λ p q. item_sym p.item q.item) a))

-- items in another order, wherever each of them stands
pub items_permuted : (ps qs : List Placed) → Permuted (λ (x y : Item). x ≡ y) (map (λ (p : Placed). p.item) ps) (map (λ (q : Placed). q.item) qs) → Permuted SameItem ps qs
items_permuted ps qs p = Permuted.trans (bare ps) (Permuted.trans (permuted_map somewhere (λ x y e. e) p) (permuted_sym (λ p q e. sym e) (bare qs)))
  where
    somewhere : Item → Placed
    somewhere x = record { begin = 0; end = 0; item = x }

    bare : (rs : List Placed) → Permuted SameItem rs (map somewhere (map (λ (r : Placed). r.item) rs))
    bare [] = Permuted.none
    bare (r ∷ rs) = Permuted.more refl (bare rs)

-- the same items in another order are alike in another order
pub same_alike : {ps qs : List Placed} → Permuted SameItem ps qs → Permuted PlacedAlike ps qs
same_alike s = permuted_wider (λ p q e. rw (← e) ItemAlike.same) s

-- and come to the same sums, of which the rows are made, and with Tier 1 the verdict
pub rearranged_sums : (bands : Bands) (ps qs : List Placed) → Permuted SameItem ps qs → sums_of bands ps ≡ sums_of bands qs
unfolding sums_of
rearranged_sums bands ps qs s =
    let same : (f : Item → ℕ) → sum_over f ps ≡ sum_over f qs = λ f. permuted_total (λ (p : Placed). f p.item) (λ p q e. ap f e) s in
    simp same
