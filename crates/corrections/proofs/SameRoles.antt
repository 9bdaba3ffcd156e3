-- Two accepted books that are equal but for one amount, whichever it is: each word has the same role in both. Assumes nothing.
use Prim.Native.Nat.{ℕ, ◌<◌}
use mathlib.Core.Path.{◌≡◌, refl, sym, ◌∙◌, ap}
use mathlib.Core.Bool.{Bool, false}
use mathlib.Core.List.{List, [], ◌∷◌, ◌++◌, flat_map}
use native.Mathlib.Omega.{arith}
use native.Mathlib.Decide.{dec_lt}
use borrow.Author.Tests.{eqb-false}
use lib.Dec.{eqb}
use lib.ListN.{length}
use Rattle.rules.specs.Word.{word, kind_of}
use Rattle.rules.specs.Book.{Member, Item, Placed}
use Rattle.rules.specs.Read.{head_of, written_at, basket_at, asset_at, derivative_set_at, financing_set_at, off_balance_at, items_of}
use Rattle.laws.proofs.Records.{head_word_lem}
use Rattle.laws.proofs.GoodHead.{good_head}
use Rattle.laws.proofs.Filed.{filed_as}
use Rattle.cuts.specs.Words.{OneAmount}
use Rattle.cuts.proofs.Records.{MemberRead}
use Rattle.cuts.proofs.Cutting.{ItemHere, kind_of_item, here_kind, test_item, items_begin, book_cut}
use Rattle.cuts.proofs.Lengths.{member_length_lem}
use Rattle.cuts.proofs.Steps.{OneOther}
use Rattle.cuts.proofs.OneAmount.{MemberOther, ItemOther, PlacedOther, items_same, items_other}
use Rattle.corrections.specs.Roles.{Role, cover_roles, member_roles, financing_trade_roles, item_roles, placed_roles}
use Rattle.corrections.specs.Claims.{SameRoles}

-- lists that are equal but in one place have the same roles if what stands there has
flat_same : {A : Type 0} {R S : ℕ → A → ℕ → Type 0} {J : ℕ → A → A → ℕ → Type 0} {k start : ℕ} {l m : List A} (roles : A → List Role) (c : OneOther R S J k start l m)
    → roles c.first ≡ roles c.second → flat_map roles l ≡ flat_map roles m
unfolding flat_map
flat_same {A} roles c e = rw (c.is_first, c.is_second) (go c.before)
  where
    go : (before : List A) → flat_map roles (before ++ c.first ∷ c.after) ≡ flat_map roles (before ++ c.second ∷ c.after)
    go [] = rw e
    go (a ∷ before) = ap (λ (l : List Role). roles a ++ l) (go before)

-- ---- records in which it stands

module _ {xs ys : List ℕ} {k : ℕ} where
  -- a member: two baskets have as many grades, since they are as long
  member_same : (netting : Bool) (at : ℕ) (m n : Member) (next : ℕ) → MemberRead xs at m next → MemberRead ys at n next → MemberOther xs ys k at m n next
      → member_roles netting m ≡ member_roles netting n
  unfolding written_at
  member_same netting at m n next r s MemberOther.trades = refl
  member_same netting at m n next r s (MemberOther.credits cs l) = refl
  member_same netting at m n next r s (MemberOther.covers c) = rw (flat_same cover_roles c refl)
  member_same netting at m n next r s MemberOther.baskets =
      let e : length (basket_at xs at).grades ≡ length (basket_at ys at).grades = omega (arith, member_length_lem xs at m next r, member_length_lem ys at n next s) in rw e

  -- an item: its marks and classes stand in its first word
  item_same : (i j : Item) (n : ℕ) → word xs 0 ≡ word ys 0 → ItemOther xs ys k i j n → item_roles i ≡ item_roles j
  unfolding asset_at derivative_set_at financing_set_at off_balance_at
  item_same i j n e ItemOther.assets = rw e
  item_same i j n e (ItemOther.sets l b) = rw e
  item_same i j n e (ItemOther.members {l} {m} c) =
      rw (e, flat_same (member_roles (derivative_set_at ys m).netting) c (member_same _ c.at c.first c.second c.next c.reads_first c.reads_second c.step))
  item_same i j n e (ItemOther.financings {l} {m} c) = rw (e, flat_same (financing_trade_roles (financing_set_at ys m).further) c refl)
  item_same i j n e ItemOther.commitments = rw e

-- ---- the book

module _ {xs ys : List ℕ} {k : ℕ} (o : OneAmount xs ys k) where
  -- a word of another kind than 0 is the same in both
  kind_same : (at kind : ℕ) → kind_of (word xs at) ≡ kind → eqb kind 0 ≡ false → word xs at ≡ word ys at
  kind_same at kind e f = o.others at (λ z. eqb-false kind 0 f (sym e ∙ ap (λ (i : ℕ). kind_of (word xs i)) z ∙ o.first))

  placed_same : (at : ℕ) (p q : Placed) (next : ℕ) → ItemHere xs at p next → PlacedOther xs ys k at p q next → item_roles p.item ≡ item_roles q.item
  placed_same at p q next r (PlacedOther.here {i} {j} {n} s) =
      let e = kind_same at (kind_of_item i) (here_kind xs at p next r) (test_item (λ kind. eqb kind 0) false refl refl refl refl i) in
      item_same i j n (head_word_lem xs at ∙ e ∙ sym (head_word_lem ys at)) s

  items_roles : (items_of xs).number ≡ 0 → (items_of ys).number ≡ 0 → items_begin xs ≡ items_begin ys
      → flat_map placed_roles (items_of xs).records ≡ flat_map placed_roles (items_of ys).records
  items_roles e f b = go (dec_lt k (items_begin xs))
    where
      go : Dec (k < items_begin xs) → flat_map placed_roles (items_of xs).records ≡ flat_map placed_roles (items_of ys).records
      go (yes h) = rw (items_same o e f b h)
      go (no h) =
          let c = (items_other o e f (omega arith)).2 in
          flat_same placed_roles c (placed_same c.at c.first c.second c.next c.reads_first c.step)

-- ALL WORDS: before the items stand as many protections in both, by the first word, which is no amount
pub same_roles : SameRoles
unfolding head_of
same_roles xs ys k rows rows' register register' o e f =
    let a = (filed_as xs rows register e).reading in
    let b = (filed_as ys rows' register' f).reading in
    let first = kind_same o 0 1 (good_head xs a.head).first refl in
    let begin : items_begin xs ≡ items_begin ys = rw first in
    rw ((book_cut xs a.number).behind, (book_cut ys b.number).behind, ← begin, items_roles o a.number b.number begin)
