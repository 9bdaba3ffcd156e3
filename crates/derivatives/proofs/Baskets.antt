-- A basket where a member of a set is due: what lies ahead behind it, and how large the tally is. Assumes nothing.
use Prim.Native.Nat.{ℕ, suc, ◌+◌, ◌^◌, ◌≤◌}
use mathlib.Core.Path.{◌≡◌, refl, ◌∙◌}
use mathlib.Core.Bool.{true}
use mathlib.Core.List.{List}
use native.Mathlib.Nat.{add-zero}
use native.Mathlib.Omega.{arith}
use borrow.Author.Tests.{lt-ltb}
use lib.ListN.{length}
use Rattle.std.specs.Prelude.{None, Ok, Err, Result}
use Rattle.rules.specs.declared.Bands.{Bands}
use Rattle.rules.specs.declared.causes.Cause.{Cause}
use Rattle.rules.specs.Word.{word, names_in}
use Rattle.rules.specs.Book.{basket}
use Rattle.rules.specs.Run.{some}
use Rattle.rules.specs.Register.{draws_of}
use Rattle.rules.specs.Read.{stands, record_then, basket_at, basket_turn, member_turn}
use Rattle.laws.proofs.Records.{stands_is}
use Rattle.laws.proofs.FactorBounds.{loss_small, basket_add_on_lem}
use Rattle.records.specs.Readable.{Readable}
use Rattle.baskets.specs.declared.Basket.{Basket}
use Rattle.baskets.specs.Reading.{read_in, basket_fault_at, basket_cause, basket_read}
use Rattle.baskets.proofs.Reading.{Told, told}
use Rattle.weighing.specs.declared.tally.Tally.{Tally}
use Rattle.derivatives.specs.declared.members.MemberStep.TheVariants.{Next}
use Rattle.weighing.specs.Gathered.{plus_basket, TallyRoomy}
use Rattle.derivatives.specs.Ahead.{Standing, MemberRead}
use Rattle.derivatives.proofs.Turns.{tally_roomy, head_there, faulty, joins}

module _ {ws : List ℕ} {t : Tally} {at : ℕ} (s : Standing ws at t) (here : stands 11 ws at ≡ true) where
  pub basket_there : Readable (suc at) ws
  basket_there = head_there s 11 here

  basket_turn_lem : member_turn ws at ≡ record_then ws at (basket_fault_at ws at) (some (basket (basket_at ws at)) 0)
  unfolding member_turn basket_turn
  basket_turn_lem = let k11 = stands_is 11 ws at here in simp (lt-ltb at (length ws) k11.0, k11.1)

  module _ (r : Result Basket Cause) (q : read_in r ≡ basket_read ws at) where
    pub basket_faulty : (c : Cause) → r ≡ Err c → (bands : Bands) → MemberRead bands ws at t (Err (record { cause = c; place = at }))
    unfolding basket_cause
    basket_faulty c e bands =
        let is : Told ws at (Err c) = rw e at (told ws at r q) in
        faulty s 11 here (basket_fault_at ws at) (some (basket (basket_at ws at)) 0) basket_turn_lem (record { cause = c; place = at }) (is, refl) bands

    module _ (b : Basket) (e : r ≡ Ok b) where
      is : Told ws at (Ok b)
      is = rw e at (told ws at r q)

      pub basket_roomy : TallyRoomy t × (b.add_on ≤ 2 ^ 62)
      unfolding basket_at
      basket_roomy = (tally_roomy s.small (omega (arith, s.readable.within, s.readable.short)), omega (arith, is.1.1.0, basket_add_on_lem (basket_at ws at)))

      pub basket_good : {more : Tally} → more ≡ plus_basket t b.value b.add_on → (bands : Bands) → MemberRead bands ws at t (Ok (Next (record { at = b.next; tally = more; credit = None })))
      unfolding basket_cause basket_at draws_of
      basket_good mq bands =
          let next-is : b.next ≡ at + suc (names_in (word ws at) + 2) = omega (arith, is.1.1.1) in
          rw next-is
          (joins s 11 here (basket_fault_at ws at) (basket (basket_at ws at)) (λ begin ms. refl) refl (loss_small (word ws (at + 1))) basket_turn_lem is.0 bands
          (mq ∙ rw (is.1.0, is.1.1.0) (simp add-zero)))
