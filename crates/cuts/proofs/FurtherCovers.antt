-- Books, sets and items side by side, the second with covers put in: what the relations of specs/Words and specs/Further give. Assumes nothing.
use Prim.Native.Nat.{ℕ}
use mathlib.Core.List.{List, [], ◌∷◌, ◌++◌}
use Rattle.rules.specs.Book.{WrittenCredit, Member, Item, Placed}
use Rattle.rules.proofs.Lists.{Pairs, pairs_by}
use Rattle.cuts.specs.Words.{Inserted}
use Rattle.cuts.specs.Further.{MemberByCredits, ItemByCredits, PlacedByCredits}

-- the same words before both books
unfoldable pub same_before : (ws : List ℕ) {xs ys : List ℕ} → Inserted xs ys → Inserted (ws ++ xs) (ws ++ ys)
same_before [] r = r
same_before (a ∷ ws) r = Inserted.same (same_before ws r)

-- where R of two credits gives S of them, the same holds of what has credits
module _ {R S : WrittenCredit → WrittenCredit → Type 0} (f : (w v : WrittenCredit) → R w v → S w v) where
  member_by : (m n : Member) → MemberByCredits R m n → MemberByCredits S m n
  member_by m n MemberByCredits.of_trade = MemberByCredits.of_trade
  member_by m n (MemberByCredits.of_credit {w} {v} r) = MemberByCredits.of_credit (f w v r)
  member_by m n MemberByCredits.of_basket = MemberByCredits.of_basket

  item_by : (i j : Item) → ItemByCredits R i j → ItemByCredits S i j
  item_by i j ItemByCredits.same = ItemByCredits.same
  item_by i j (ItemByCredits.for_derivatives r) = ItemByCredits.for_derivatives (record { alike = r.alike; members = pairs_by member_by r.members })

  pub items_by : {ps qs : List Placed} → Pairs (PlacedByCredits R) ps qs → Pairs (PlacedByCredits S) ps qs
  items_by = pairs_by (λ (p q : Placed). item_by p.item q.item)
