-- The loop over the stretches of a set and the baskets between them: what lies ahead stays the same at every turn, and each way out of it.
-- Assumes nothing.
use Prim.Native.Nat.{ℕ, ◌-◌, ◌≤◌, ◌<◌}
use mathlib.Core.Path.{◌≡◌, ◌∙◌}
use mathlib.Core.Bool.{false}
use mathlib.Core.List.{List}
use native.Mathlib.Omega.{arith}
use lib.ListN.{length}
use Rattle.std.specs.Prelude.{Ok, Err}
use Rattle.rules.specs.declared.Bands.{Bands}
use Rattle.rules.specs.declared.causes.Refusal.{Refusal}
use Rattle.rules.specs.Read.{stands, member_turn}
use Rattle.weighing.specs.declared.tally.Tally.{Tally}
use Rattle.derivatives.specs.declared.set.OpenSet.{OpenSet}
use Rattle.derivatives.specs.declared.members.MemberStep.TheVariants.{Next}
use Rattle.derivatives.specs.Ahead.{gathered, turned_away, ends_with, from_member, set_ahead, TallyUpTo, SoundSet, Standing, Neither, MemberRead}
use Rattle.derivatives.proofs.Ahead.{member_over}

pub record Weighing (bands : Bands) (ws : List ℕ) (begin : ℕ) (from o : OpenSet) : Type 0 where
  pub same : set_ahead bands ws begin from ≡ set_ahead bands ws begin o
  pub sound : SoundSet ws o

-- neither a trade nor a written credit stands there: a basket, or the end
module _ {bands : Bands} {ws : List ℕ} {begin : ℕ} {from o : OpenSet} (i : Weighing bands ws begin from o) {t : Tally} {at : ℕ}
    (over : (set_ahead bands ws begin o ≡ from_member bands ws begin t at) × (Standing ws at t × (Neither ws at × (o.at ≤ at)))) where
  module _ {next : OpenSet} (taken : (bands : Bands) → MemberRead bands ws at t (Ok (Next next))) where
    pub weighing_next : Weighing bands ws begin from next
    weighing_next = record { same = i.same ∙ over.0 ∙ (taken bands).0 begin; sound = (taken bands).1.0 }

    pub weighing_onward : length ws - next.at < length ws - o.at
    weighing_onward = omega (arith, over.1.1.1, (taken bands).1.1, (taken bands).1.0.readable.within)

  pub weighing_whole : stands 11 ws at ≡ false → (set_ahead bands ws begin from ≡ ends_with (gathered t at)) × (TallyUpTo t at × (at ≤ length ws))
  unfolding member_turn
  weighing_whole none =
      let s = over.1.0 in
      (i.same ∙ over.0 ∙ member_over bands ws begin t at s.readable.within (simp (over.1.1.0.0, over.1.1.0.1, none)), (s.small, s.readable.within))

  pub weighing_faulty : (x : Refusal) → ((bands : Bands) → MemberRead bands ws at t (Err x)) → (set_ahead bands ws begin from ≡ turned_away x) × (x.place ≤ length ws)
  weighing_faulty x s = (i.same ∙ over.0 ∙ (s bands).0 begin, (s bands).1)
