-- A derivative set in the words that begin with its head: its members, its amounts, its marks, and how large its tally is. Assumes nothing.
use Prim.Native.Nat.{ℕ, suc, ◌+◌, ◌*◌, ◌≤◌, ◌<◌, ◌^◌}
use mathlib.Core.Path.{◌≡◌, refl}
use mathlib.Core.List.{List}
use native.Mathlib.Omega.{arith}
use lib.ListN.{length}
use Rattle.rules.specs.declared.Bands.{Bands}
use Rattle.rules.specs.Word.{word}
use Rattle.rules.specs.Book.{Member, trade, written, basket, DerivativeSet, derivatives, total}
use Rattle.rules.specs.Read.{trade_at, written_at, basket_at, member_turn, derivative_set_at}
use Rattle.rules.specs.Weigh.{loss_in, add_on_in, uncovered_in}
use Rattle.rules.proofs.Lists.{total_le_all}
use Rattle.laws.proofs.FactorBounds.{loss_small}
use Rattle.cuts.proofs.Chains.{Chain, sure_run, chain_onward, chain_run}
use Rattle.cuts.proofs.Grammar.{whole_within}
use Rattle.cuts.proofs.Records.{MemberRead, member_made, member_over, member_onward, derivative_set_fault_at, ItemRead, item_onward}
use Rattle.other_marks.specs.Marked.{set_with}
use Rattle.weighing.specs.Words.{set_words, set_of}
use Rattle.settings.specs.Members.{members_from}

-- ---- losses: less than 2 ^ 27 for each member

member_loss : (ws : List ℕ) (at : ℕ) (m : Member) (next : ℕ) → MemberRead ws at m next → loss_in m < 2 ^ 27
unfolding trade_at written_at basket_at
member_loss ws at m next (MemberRead.of_trade w) = loss_small (word ws (at + 1))
member_loss ws at m next (MemberRead.of_credit w c) = loss_small (word ws (at + 1))
member_loss ws at m next (MemberRead.of_basket w) = loss_small (word ws (at + 1))

losses_small : (ws : List ℕ) {at stop : ℕ} {ms : List Member} → Chain (MemberRead ws) at ms stop → total loss_in ms + 2 ^ 27 * at ≤ 2 ^ 27 * stop
losses_small ws Chain.done = omega arith
losses_small ws (Chain.then {at} {next} {stop} {a = m} r c) = omega (arith, member_loss ws at m next r, (member_onward ws at m next r).0, losses_small ws c)

-- what does not stay in of add-ons is within them
pub uncovered_within : (bands : Bands) (ms : List Member) → total uncovered_in ms ≤ total (add_on_in bands) ms
uncovered_within bands ms = total_le_all uncovered_in (add_on_in bands) within ms
  where
    within : (m : Member) → uncovered_in m ≤ add_on_in bands m
    within (trade t) = omega arith
    within (written w) = omega arith
    within (basket b) = omega arith

-- ---- the set

pub record SetHere (ws : List ℕ) (s : DerivativeSet) : Type 0 where
  pub four : 4 ≤ length ws
  pub stop : ℕ
  pub members : members_from ws 4 ≡ sure_run s.members stop
  -- its amounts are those of its words
  pub received : (set_of (set_words ws)).received ≡ s.received
  pub paid : (set_of (set_words ws)).paid ≡ s.paid
  pub posted : (set_of (set_words ws)).posted ≡ s.posted
  -- and its marks those of its head
  pub marks : set_with (word ws 0) s ≡ s
  pub losses : total loss_in s.members ≤ 2 ^ 27 * length ws

pub set_here : (ws : List ℕ) (s : DerivativeSet) (n : ℕ) → ItemRead ws (derivatives s) n → SetHere ws s
unfolding derivative_set_at
set_here ws s n (ItemRead.for_derivatives {members = ms} w c) =
    let o = item_onward ws _ n (ItemRead.for_derivatives w c) in
    let on = chain_onward (λ i m j r. (member_onward ws i m j r).0) c.chain in
    record {
      four = whole_within 3 (derivative_set_fault_at ws) ws 0 w;
      stop = n;
      members = chain_run (member_turn ws) (member_made ws) c.chain (member_over ws n c.last) (suc (length ws)) (omega arith);
      received = refl;
      paid = refl;
      posted = refl;
      marks = refl;
      losses = omega (arith, losses_small ws c.chain, o.1);
    }
