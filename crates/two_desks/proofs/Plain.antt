-- Two books that differ in marks at most: protections, trades, written credits, covers and baskets have no marks, so they are the same.
-- Assumes nothing.
use Prim.Native.Nat.{ℕ, suc, ◌+◌}
use mathlib.Core.Path.{◌≡◌, refl, ◌∙◌, ap}
use mathlib.Core.Bool.{Bool, false, not, ◌||◌, cond}
use mathlib.Core.List.{List}
use native.Mathlib.Omega.{arith}
use lib.Dec.{ltb, eqb}
use lib.ListN.{length, take, drop}
use Rattle.rules.specs.Word.{word, kind_of, payload_of, size_of, minus_zero, names_in}
use Rattle.rules.specs.Calendar.{last_date}
use Rattle.rules.specs.Book.{Protection, Cover, Member}
use Rattle.rules.specs.Run.{over}
use Rattle.rules.specs.Read.{head_of, first_record, head_faulty, date_faulty, reporting_date, protection_at, protection_turn, cover_at, cover_turn, written_at, written_turn, trade_at, trade_turn, grades_at, basket_at, basket_turn, member_turn, protections_of}
use Rattle.rules.specs.TwoDesks.{MoreMarks}
use Rattle.rules.proofs.Lists.{or_true}
use Rattle.rules.proofs.Runs.{Turns}
use Rattle.laws.proofs.GoodHead.{good_head}
use Rattle.cuts.proofs.Grammar.{kind_there}
use Rattle.cuts.specs.Words.{Wordwise}
use Rattle.cuts.proofs.Shape.{turns_eq, eq_turns, run_same, record_turns, stands_turns, protection_turns, member_turns}
use Rattle.two_desks.proofs.Amounts.{shape, word_same, amount_same, amounts_same, by_kind}

module _ (xs ys : List ℕ) (l : Wordwise MoreMarks xs ys) where
  cover_same : (at : ℕ) → cover_turn xs at ≡ cover_turn ys at
  unfolding cover_turn cover_at
  cover_same at =
      turns_eq _ _ (stands_turns (shape l) (λ (a b : Cover). a ≡ b) 7 at _ _ over over
      (λ k. record_turns (shape l) (λ (a b : Cover). a ≡ b) 7 at _ _ _ _ k
      (λ e.
      let w = word_same xs ys l at 7 k refl in
      let a = amount_same xs ys l 1 at e 0 (omega arith) in
      (rw (w, a), λ z next. Turns.somes (rw (w, a)))))
      Turns.overs)

  written_same : (at : ℕ) → kind_of (word xs at) ≡ 6 → Turns (λ (a b : Member). a ≡ b) (written_turn xs at) (written_turn ys at)
  unfolding written_turn written_at
  written_same at k =
      record_turns (shape l) (λ (a b : Member). a ≡ b) 6 at _ _ _ _ k
      (λ e.
      let w = word_same xs ys l at 6 k refl in
      let a = amount_same xs ys l 5 at e 0 (omega arith) in
      let b = amount_same xs ys l 5 at e 1 (omega arith) in
      let c = amount_same xs ys l 5 at e 2 (omega arith) in
      let d = amount_same xs ys l 5 at e 3 (omega arith) in
      let f = amount_same xs ys l 5 at e 4 (omega arith) in
      (rw (w, a, b, c, d, f), λ z next. eq_turns _ _ (rw (run_same (cover_turn xs) (cover_turn ys) cover_same (ap suc l.long) next, w, a, b, c, d, f))))

  trade_same : (at : ℕ) → kind_of (word xs at) ≡ 5 → Turns (λ (a b : Member). a ≡ b) (trade_turn xs at) (trade_turn ys at)
  unfolding trade_turn trade_at
  trade_same at k =
      record_turns (shape l) (λ (a b : Member). a ≡ b) 5 at _ _ _ _ k
      (λ e.
      let w = word_same xs ys l at 5 k refl in
      let a = amount_same xs ys l 4 at e 0 (omega arith) in
      let b = amount_same xs ys l 4 at e 1 (omega arith) in
      let c = amount_same xs ys l 4 at e 2 (omega arith) in
      let d = amount_same xs ys l 4 at e 3 (omega arith) in
      (rw (w, a, b, c, d), λ z next. Turns.somes (rw (w, a, b, c, d))))

  basket_same : (at : ℕ) → kind_of (word xs at) ≡ 11 → Turns (λ (a b : Member). a ≡ b) (basket_turn xs at) (basket_turn ys at)
  unfolding basket_turn basket_at
  basket_same at k =
      record_turns (shape l) (λ (a b : Member). a ≡ b) 11 at _ _ _ _ k
      (λ e.
      let w = word_same xs ys l at 11 k refl in
      let a = amount_same xs ys l (names_in (word xs at) + 2) at e 0 (omega arith) in
      let b = amount_same xs ys l (names_in (word xs at) + 2) at e 1 (omega arith) in
      let h = amounts_same xs ys l (names_in (word xs at) + 2) at (at + 3) (names_in (word xs at)) (kind_there xs at 10 k) e (omega arith) (omega arith) in
      let g : grades_at xs at ≡ grades_at ys at = h ∙ ap (λ (v : ℕ). take (names_in v) (drop (at + 3) ys)) w in
      (rw (g, w, a, b), λ z next. Turns.somes (rw (g, w, a, b))))

  pub member_same : (at : ℕ) → member_turn xs at ≡ member_turn ys at
  member_same at = turns_eq _ _ (member_turns (shape l) (λ (a b : Member). a ≡ b) at (trade_same at) (written_same at) (basket_same at))

  -- ---- the head and the protections

  pub head_faulty_same : head_faulty xs ≡ head_faulty ys
  unfolding head_faulty
  head_faulty_same =
      let short = ltb (length xs) first_record in
      rw (← l.long)
      (by_kind xs ys l 0 1 refl (λ (a : Bool) (w : ℕ). short || not a || ltb 4096 (payload_of w) || not (eqb (kind_of (word xs 1)) 0) || minus_zero (word xs 1)) (λ v w. simp or_true)
      ∙ by_kind xs ys l 1 0 refl (λ (a : Bool) (w : ℕ). short || not (eqb (kind_of (word ys 0)) 1) || ltb 4096 (payload_of (word ys 0)) || not a || minus_zero w) (λ v w. simp or_true))

  pub date_faulty_same : date_faulty xs ≡ date_faulty ys
  unfolding date_faulty
  date_faulty_same = by_kind xs ys l 2 0 refl (λ (a : Bool) (w : ℕ). not a || ltb last_date (payload_of w)) (λ v w. refl)

  date_same : reporting_date xs ≡ reporting_date ys
  unfolding date_faulty reporting_date
  date_same = by_kind xs ys l 2 0 refl (λ (a : Bool) (w : ℕ). cond (not a || ltb last_date (payload_of w)) 0 (size_of w)) (λ v w. refl)

  protection_same : (at : ℕ) → protection_turn xs at ≡ protection_turn ys at
  unfolding protection_at
  protection_same at =
      turns_eq _ _ (protection_turns (shape l) (λ (a b : Protection). a ≡ b) at
      (λ k e.
      let w = word_same xs ys l at 3 k refl in
      let a = amount_same xs ys l 3 at e 0 (omega arith) in
      let b = amount_same xs ys l 3 at e 1 (omega arith) in
      let c = amount_same xs ys l 3 at e 2 (omega arith) in
      (rw (w, a, b, c), rw (w, a, b, c))))

  -- a head that is not faulty is the same
  pub head_same : head_faulty xs ≡ false → head_of xs ≡ head_of ys
  unfolding head_of
  head_same e = let k = good_head xs e in rw (word_same xs ys l 0 1 k.first refl, word_same xs ys l 1 0 k.second refl, date_same)

  pub protections_same : head_faulty xs ≡ false → protections_of xs ≡ protections_of ys
  unfolding protections_of
  protections_same e = rw (← head_same e) (run_same (protection_turn xs) (protection_turn ys) protection_same refl first_record)
