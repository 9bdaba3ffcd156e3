-- The head of a derivative set: what lies ahead of it is what lies ahead inside the set. Assumes nothing.
use Prim.Native.Nat.{ℕ, zero, suc, ◌+◌, ◌≤◌}
use mathlib.Core.Path.{◌≡◌, ◌∙◌, ap}
use mathlib.Core.List.{List}
use native.Mathlib.Omega.{arith}
use lib.ListN.{length, drop, length-drop}
use Rattle.rules.specs.declared.Bands.{Bands}
use Rattle.rules.specs.declared.Sums.{Sums}
use Rattle.rules.specs.Book.{Member}
use Rattle.rules.specs.Run.{Run, run_from}
use Rattle.rules.specs.Read.{member_turn, derivative_set_at, with_members, derivative_set_turn, placed, item_turn}
use Rattle.rules.specs.Register.{draws_of}
use Rattle.laws.proofs.Records.{lacks_room, amounts_at_lem}
use Rattle.records.specs.Sums.{plus}
use Rattle.records.proofs.Words.{record_good}
use Rattle.weighing.specs.Words.{set_cause}
use Rattle.weighing.specs.Gathered.{no_tally}
use Rattle.derivatives.specs.Ahead.{members_ahead, from_member, set_ahead, new_set, SoundSet}
use Rattle.weighing.proofs.Entry.{item_is}
use Rattle.reading.specs.Ahead.{after, set_behind, from_item, from_set}
use Rattle.reading.proofs.AheadLaws.{ahead_some, ahead_broken}
use Rattle.reading.proofs.ItemLaws.{Met, kind_here, turn_here, of_kind_4}

-- a set whose head is good: its members, and then the items
module _ (bands : Bands) (ws : List ℕ) (s : Sums) (at : ℕ) (w : at ≤ length ws) where
  abbrev part : List ℕ
  part = drop at ws

  members_then : (records : List Member) (number place : ℕ)
      → item_turn ws at ≡ placed at (with_members part (record { records = records; number = number; place = place }))
      → from_item bands ws s at ≡ set_behind bands ws s at (members_ahead bands at no_tally (record { records = records; number = number; place = place }))
  unfolding derivative_set_at
  members_then records zero place e =
      ahead_some bands ws s at w _ (at + place) e
      ∙ ap (λ (more : Sums). after (draws_of at records) (from_item bands ws (plus s more) (at + place))) (item_is bands part records)
  members_then records (suc number) place e = ahead_broken bands ws s at w _ number (at + place) e

pub set_opens : (bands : Bands) {ws : List ℕ} {s : Sums} {at : ℕ} → Met ws s at 4 → set_cause (drop at ws) ≡ 0
    → (from_item bands ws s at ≡ from_set bands ws s at new_set) × SoundSet (drop at ws) new_set
unfolding derivative_set_turn from_set set_ahead from_member
set_opens bands {ws} {s} {at} m e =
    let part = drop at ws in
    let r : Run Member = run_from (member_turn part) (suc (length part)) 4 in
    let g = record_good part 0 3 (amounts_at_lem _ (kind_here m)) _ (λ (next : ℕ). with_members part (run_from (member_turn part) (suc (length part)) next)) e in
    let n = length-drop at ws in
    let l = lacks_room 3 part 0 g.0 (omega (arith, m.here)) in (
      members_then bands ws s at m.sums_up_to.readable.within r.records r.number r.place (turn_here m (λ z. omega arith) ∙ ap (placed at) (of_kind_4 part (kind_here m) ∙ g.1)),
      record {
        readable = record { within = omega arith; short = omega (arith, m.sums_up_to.readable.short) };
        small = record { weight = omega arith; losses = omega arith; uncovered = omega arith };
        credit = tt;
      },
    )
