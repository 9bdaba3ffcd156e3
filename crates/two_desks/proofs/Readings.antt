-- Two books that differ in marks at most are read alike: the same faults at the same places, and items that differ in marks at most.
-- No cause looks at a mark. Assumes nothing.
use Prim.Native.Nat.{ℕ, suc, ◌^◌, ◌≤◌, ◌<◌}
use mathlib.Core.Path.{◌≡◌, refl, ap}
use mathlib.Core.Bool.{false}
use mathlib.Core.List.{List}
use native.Mathlib.Omega.{arith}
use lib.Dec.{leb, lit<, lit≤}
use lib.ListN.{length, drop}
use Rattle.rules.specs.Word.{word, kind_of, payload_of, bit_of, size_of, marks_of_kind}
use Rattle.rules.specs.Book.{FinancingTrade, Item, financing}
use Rattle.rules.specs.Run.{Turn, over, some, Run}
use Rattle.rules.specs.Faults.{asset_fault, derivative_set_fault, financing_set_fault, financing_trade_fault}
use Rattle.rules.specs.Read.{asset_at, asset_turn, member_turn, derivative_set_at, derivative_set_turn, financing_trade_at, financing_trade_turn, financing_member_turn, financing_set_at, financing_set_turn, off_balance_at, off_balance_turn, item_of, placed, end_fault, item_turn, items_of, head_faulty}
use Rattle.rules.specs.TwoDesks.{MoreMarks}
use Rattle.rules.proofs.Runs.{Turns, Both, both_run}
use Rattle.cuts.specs.Words.{Wordwise}
use Rattle.cuts.proofs.Shape.{wordwise_drop, run_same, record_turns, stands_turns, item_turns, place_turns, both_items}
use Rattle.two_desks.proofs.Marks.{payload_same, bit_same, mark_kept}
use Rattle.two_desks.proofs.Related.{Kept, MoreTrade, MoreItem, MorePlaced}
use Rattle.two_desks.proofs.Amounts.{shape, word_same, amount_same, last_days_same}
use Rattle.two_desks.proofs.Plain.{member_same, protections_same}

module _ (xs ys : List ℕ) (l : Wordwise MoreMarks xs ys) where
  -- at a word of a known kind: marks stay set, and what is above them is the same
  module _ (at kind : ℕ) (k : kind_of (word xs at) ≡ kind) where
    kept : (i : ℕ) → i < marks_of_kind kind → Kept (bit_of i (word xs at)) (bit_of i (word ys at))
    kept i h = mark_kept (l.at at) i (rw k h)

    payload : (j : ℕ) → marks_of_kind kind ≤ j → j ≤ 28 → leb (2 ^ j) (payload_of (word xs at)) ≡ leb (2 ^ j) (payload_of (word ys at))
    payload j h m = payload_same (l.at at) j (rw k h) m

    bit : (j : ℕ) → marks_of_kind kind ≤ j → bit_of j (word xs at) ≡ bit_of j (word ys at)
    bit j h = bit_same (l.at at) j (rw k h)

  asset_turns : kind_of (word xs 0) ≡ 2 → Turns MoreItem (asset_turn xs) (asset_turn ys)
  unfolding asset_turn asset_at asset_fault
  asset_turns k =
      record_turns (shape l) MoreItem 2 0 _ _ _ _ k
      (λ e.
      let a = amount_same xs ys l 3 0 e 0 (omega arith) in
      let b = amount_same xs ys l 3 0 e 1 (omega arith) in
      let c = amount_same xs ys l 3 0 e 2 (omega arith) in (
        rw (payload 0 2 k 1 (lit≤ tt) (lit≤ tt), a, b, c),
        λ z next. Turns.somes (MoreItem.of_assets (record { fiduciary = kept 0 2 k 0 (lit< tt); carrying = ap size_of a; provision = ap size_of b; deducted = ap size_of c })),
      ))

  derivative_turns : kind_of (word xs 0) ≡ 4 → Turns MoreItem (derivative_set_turn xs) (derivative_set_turn ys)
  unfolding derivative_set_turn derivative_set_at derivative_set_fault
  derivative_turns k =
      record_turns (shape l) MoreItem 4 0 _ _ _ _ k
      (λ e.
      let a = amount_same xs ys l 3 0 e 0 (omega arith) in
      let b = amount_same xs ys l 3 0 e 1 (omega arith) in
      let c = amount_same xs ys l 3 0 e 2 (omega arith) in (
        rw (payload 0 4 k 6 (lit≤ tt) (lit≤ tt), a, b, c),
        λ z next. rw (← run_same (member_turn xs) (member_turn ys) (member_same xs ys l) (ap suc l.long) next)
            (Turns.somes (MoreItem.for_derivatives (record {
              netting = kept 0 4 k 0 (lit< tt);
              not_segregated = kept 0 4 k 1 (lit< tt);
              daily = kept 0 4 k 2 (lit< tt);
              same_currency = kept 0 4 k 3 (lit< tt);
              full_amount = kept 0 4 k 4 (lit< tt);
              exempt = kept 0 4 k 5 (lit< tt);
              received = ap size_of a;
              paid = ap size_of b;
              posted = ap size_of c;
              members = refl;
            }))),
      ))

  -- in a set, whose agent bit is above its mark
  financing_trade_turns : kind_of (word xs 0) ≡ 8 → (at : ℕ) → kind_of (word xs at) ≡ 9 → Turns MoreTrade (financing_trade_turn xs at) (financing_trade_turn ys at)
  unfolding financing_trade_turn financing_trade_at financing_trade_fault
  financing_trade_turns h at k =
      record_turns (shape l) MoreTrade 9 at _ _ _ _ k
      (λ e.
      let a = amount_same xs ys l 7 at e 0 (omega arith) in
      let b = amount_same xs ys l 7 at e 1 (omega arith) in
      let c = amount_same xs ys l 7 at e 2 (omega arith) in
      let d = amount_same xs ys l 7 at e 3 (omega arith) in
      let f = amount_same xs ys l 7 at e 4 (omega arith) in
      let g = amount_same xs ys l 7 at e 5 (omega arith) in
      let i = amount_same xs ys l 7 at e 6 (omega arith) in (
        rw (bit 0 8 h 1 (lit≤ tt), last_days_same xs ys l at, payload at 9 k 1 (lit≤ tt) (lit≤ tt), a, b, c, d, f, g, i),
        λ z next. Turns.somes (record {
          net_settled = kept at 9 k 0 (lit< tt);
          asset = ap size_of a;
          securities = ap size_of b;
          receivable = ap size_of c;
          payable = ap size_of d;
          lent = ap size_of f;
          received = ap size_of g;
          days = ap size_of i;
        }),
      ))

  financing_member_turns : kind_of (word xs 0) ≡ 8 → (at : ℕ) → Turns MoreTrade (financing_member_turn xs at) (financing_member_turn ys at)
  unfolding financing_member_turn
  financing_member_turns h at = stands_turns (shape l) MoreTrade 9 at _ _ over over (financing_trade_turns h at) Turns.overs

  financing_turns : kind_of (word xs 0) ≡ 8 → Turns MoreItem (financing_set_turn xs) (financing_set_turn ys)
  unfolding financing_set_turn financing_set_at financing_set_fault
  financing_turns k =
      record_turns (shape l) MoreItem 8 0 _ _ _ _ k
      (λ e. (
        rw (payload 0 8 k 3 (lit≤ tt) (lit≤ tt), bit 0 8 k 1 (lit≤ tt), bit 0 8 k 2 (lit≤ tt)),
        λ z next. rw (← l.long) (go _ _ (both_run MoreTrade (financing_member_turn xs) (financing_member_turn ys) (financing_member_turns k) (suc (length xs)) next)),
      ))
    where
      go : (r s : Run FinancingTrade) → Both MoreTrade r s
          → Turns MoreItem (some (financing (financing_set_at xs r.records)) r.number r.place) (some (financing (financing_set_at ys s.records)) s.number s.place)
      go r s b =
          rw (← b.number, ← b.place)
          (Turns.somes (MoreItem.for_financing (record {
            netting = kept 0 8 k 0 (lit< tt);
            agent = bit 0 8 k 1 (lit≤ tt);
            further = bit 0 8 k 2 (lit≤ tt);
            trades = b.records;
          })))

  off_balance_turns : kind_of (word xs 0) ≡ 10 → Turns MoreItem (off_balance_turn xs) (off_balance_turn ys)
  unfolding off_balance_turn off_balance_at
  off_balance_turns k =
      record_turns (shape l) MoreItem 10 0 _ _ _ _ k
      (λ e.
      let w = word_same xs ys l 0 10 k refl in
      let a = amount_same xs ys l 1 0 e 0 (omega arith) in
      (rw (w, a), λ z next. rw (← w, ← a) (Turns.somes MoreItem.for_off_balance)))

  item_more : Turns MoreItem (item_of xs) (item_of ys)
  item_more = item_turns (shape l) MoreItem asset_turns derivative_turns financing_turns off_balance_turns

placed_turns : (at : ℕ) {t u : Turn Item} → Turns MoreItem t u → Turns MorePlaced (placed at t) (placed at u)
placed_turns at Turns.overs = Turns.overs
placed_turns at Turns.bads = Turns.bads
placed_turns at (Turns.somes r) = Turns.somes (record { begin = refl; end = refl; item = r })

module _ (xs ys : List ℕ) (l : Wordwise MoreMarks xs ys) where
  end_same : (at : ℕ) → kind_of (word xs at) ≡ 15 → end_fault xs at ≡ end_fault ys at
  unfolding end_fault
  end_same at k = rw (l.long, word_same xs ys l at 15 k refl)

  book_turns : (at : ℕ) → Turns MorePlaced (item_turn xs at) (item_turn ys at)
  book_turns at = place_turns (shape l) MorePlaced at (end_same at) (placed_turns at (item_more (drop at xs) (drop at ys) (wordwise_drop at l)))

  -- the items of both books, and the first record that is faulty by itself
  pub items_both : head_faulty xs ≡ false → Both MorePlaced (items_of xs) (items_of ys)
  items_both h = let p = protections_same xs ys l h in both_items (shape l) MorePlaced (ap (λ r. r.number) p) (ap (λ r. r.place) p) book_turns
