-- Two books that differ in marks at most come equally far: the covers are the same, and settling looks at no mark. Assumes nothing.
use Prim.Native.Nat.{ℕ, ◌^◌}
use mathlib.Core.Path.{◌≡◌, refl, ap}
use mathlib.Core.Bool.{Bool, true, false, cond}
use mathlib.Core.List.{List, map}
use lib.Dec.{eqb, ltb}
use lib.ListN.{length}
use Rattle.rules.specs.declared.Entry.{Entry}
use Rattle.rules.specs.Book.{Item, Placed}
use Rattle.rules.specs.Run.{Run}
use Rattle.rules.specs.Read.{head_faulty, date_faulty, head_of, protections_of, items_of}
use Rattle.rules.specs.Register.{entry_of, draws_of, draws_in, draws_over, Settled, unfit, settled, settle}
use Rattle.rules.specs.Filing.{Outcome, early, refused, accepted, judged, records_outcome, admission, outcome_of}
use Rattle.rules.specs.TwoDesks.{MoreRecognised}
use Rattle.rules.proofs.Lists.{Pairs}
use Rattle.rules.proofs.Runs.{Both}
use Rattle.two_desks.proofs.Related.{MoreItem, MorePlaced}
use Rattle.two_desks.proofs.Amounts.{marked}
use Rattle.two_desks.proofs.Plain.{head_faulty_same, date_faulty_same, head_same, protections_same}
use Rattle.two_desks.proofs.Readings.{items_both}

-- ---- the draws

item_draws : (begin : ℕ) {i j : Item} → MoreItem i j → draws_in begin i ≡ draws_in begin j
item_draws begin (MoreItem.of_assets m) = refl
item_draws begin (MoreItem.for_derivatives m) = ap (draws_of begin) m.members
item_draws begin (MoreItem.for_financing m) = refl
item_draws begin MoreItem.for_off_balance = refl

same_draws : {ps qs : List Placed} → Pairs MorePlaced ps qs → draws_over ps ≡ draws_over qs
unfolding draws_over
same_draws Pairs.none = refl
same_draws (Pairs.more {a} {b} m t) = rw (← m.begin, item_draws a.begin m.item, same_draws t)

-- ---- the outcomes

pub data Outcomes : Outcome → Outcome → Type 0 where
  earlies : {number : ℕ} → Outcomes (early number) (early number)
  refusals : {number place : ℕ} → Outcomes (refused number place) (refused number place)
  acceptances : {ps qs : List Placed} {left : List Entry} → Pairs MorePlaced ps qs → Outcomes (accepted ps left) (accepted qs left)

judged_both : (r t : Run Placed) (s : Settled) → Both MorePlaced r t → Outcomes (judged r s) (judged t s)
judged_both r t (unfit number place) b = refusals
judged_both r t (settled left) b = rw (← b.number, ← b.place) (go (eqb r.number 0))
  where
    go : (n : Bool) → Outcomes (cond n (accepted r.records left) (refused r.number r.place)) (cond n (accepted t.records left) (refused r.number r.place))
    go true = acceptances b.records
    go false = refusals

module _ (xs ys : List ℕ) (l : MoreRecognised xs ys) where
  records_both : head_faulty xs ≡ false → Outcomes (records_outcome xs) (records_outcome ys)
  unfolding records_outcome
  records_both h =
      let b = items_both xs ys (marked l) h in
      let s = settle (map entry_of (protections_of xs).records) (draws_over (items_of xs).records) in
      rw (← protections_same xs ys (marked l) h, ← same_draws b.records) (judged_both (items_of xs) (items_of ys) s b)

  pub outcomes : (rows entries : ℕ) → Outcomes (outcome_of xs rows entries) (outcome_of ys rows entries)
  unfolding outcome_of admission
  outcomes rows entries =
      rw (← l.long, ← head_faulty_same xs ys (marked l), ← date_faulty_same xs ys (marked l)) (go (ltb rows 22) (ltb (2 ^ 20) (length xs)) (head_faulty xs) refl (date_faulty xs))
    where
      rest : head_faulty xs ≡ false → (d : Bool) → Outcomes (cond d (early 4) (records_outcome xs)) (cond d (early 4) (records_outcome ys))
      rest h true = earlies
      rest h false = records_both h

      go : (a b c : Bool) → head_faulty xs ≡ c → (e : Bool) → Outcomes
          (cond a (early 1) (cond b (early 2) (cond c (early 3) (cond e (early 16) (cond (ltb entries (head_of xs).protections) (early 4) (records_outcome xs))))))
          (cond a (early 1) (cond b (early 2) (cond c (early 3) (cond e (early 16) (cond (ltb entries (head_of ys).protections) (early 4) (records_outcome ys))))))
      go true b c h e = earlies
      go false true c h e = earlies
      go false false true h e = earlies
      go false false false h true = earlies
      go false false false h false = rw (← head_same xs ys (marked l) h) (rest h (ltb entries (head_of xs).protections))
