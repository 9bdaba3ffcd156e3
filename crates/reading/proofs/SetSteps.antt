-- A step inside a derivative set, by what weighing it answered. Assumes nothing.
use Prim.Native.Nat.{ℕ, ◌+◌, ◌^◌, ◌≤◌}
use mathlib.Core.Path.{◌≡◌, ◌∙◌, ap}
use mathlib.Core.List.{List}
use native.Mathlib.Omega.{arith}
use lib.ListN.{length, drop, length-drop}
use Rattle.rules.specs.declared.Draw.{Draw}
use Rattle.rules.specs.declared.Sums.{Sums}
use Rattle.rules.specs.Read.{head_of}
use Rattle.records.specs.Readable.{Readable}
use Rattle.records.specs.Sums.{plus, SumsRoomy}
use Rattle.weighing.specs.declared.read.SetWords.{SetWords}
use Rattle.weighing.specs.declared.tally.Tally.{Tally}
use Rattle.derivatives.specs.declared.set.OpenSet.{OpenSet}
use Rattle.derivatives.specs.declared.set.Weighed.{Weighed}
use Rattle.rules.specs.declared.causes.Refusal.{Refusal}
use Rattle.std.specs.Prelude.{Result, Ok, Err}
use Rattle.derivatives.specs.declared.set.Weighed.TheVariants.{Whole}
use Rattle.derivatives.specs.declared.set.Weighed.TheVariants as set
use Rattle.weighing.specs.Words.{set_words, set_of}
use Rattle.weighing.specs.Gathered.{TallyFits, set_sums}
use Rattle.weighing.proofs.SetRows.{set_roomy}
use Rattle.derivatives.specs.Ahead.{set_ahead, TallyUpTo, SoundSet, weighed_ahead, SoundWeighed}
use Rattle.reading.specs.declared.cursor.Cursor.{Cursor}
use Rattle.reading.specs.declared.cursor.Stage.TheVariants as stage
use Rattle.reading.specs.declared.steps.Step.TheVariants as step
use Rattle.reading.specs.Ahead.{set_behind, from_set, ahead, Sound}
use Rattle.reading.proofs.AheadLaws.{sums_roomy}
use Rattle.reading.proofs.ItemLaws.{part_at, from_is}
use Rattle.reading.proofs.SetBounds.{tally_fits, sums_with_set}
use Rattle.reading.proofs.CursorLaws.{item_cursor, set_cursor, sound_item, sound_set, set_here, ahead_set, left_set, Right}

module _ {ws : List ℕ} {c : Cursor} (so : Sound ws c) {o : OpenSet} (i : c.stage ≡ stage.Set o) (r : Result Weighed Refusal)
    (q : (set_ahead c.bands (part_at ws c.at) c.at o ≡ weighed_ahead c.bands (part_at ws c.at) c.at r) × SoundWeighed (part_at ws c.at) r) where
  weighed : (set_ahead (head_of ws).bands (drop c.at ws) c.at o ≡ weighed_ahead (head_of ws).bands (drop c.at ws) c.at r) × SoundWeighed (drop c.at ws) r
  weighed = rw (from_is ws c.at, so.bands) at q

  told : ahead ws c ≡ set_behind (head_of ws).bands ws c.sums c.at (weighed_ahead (head_of ws).bands (drop c.at ws) c.at r)
  unfolding from_set
  told = ahead_set ws c i ∙ ap (set_behind (head_of ws).bands ws c.sums c.at) weighed.0

  pub step_cover : (d : Draw) (next : OpenSet) → r ≡ Ok (set.Cover d next) → Right ws c (Ok (step.Cover d (set_cursor c.bands c.at c.sums next)))
  unfolding ahead from_set
  step_cover d next e =
      let t : SoundSet (drop c.at ws) next = rw e at weighed.1 in
      (rw e at told, sound_set so (set_here so i).0 t)

  module _ (t : Tally) (place : ℕ) (e : r ≡ Ok (Whole t place)) where
    tally_there : TallyUpTo t place × (place ≤ length (drop c.at ws))
    tally_there = rw e at weighed.1

    behind_there : (4 ≤ place) × (c.at + place ≤ length ws)
    behind_there =
        let l = tally_there in
        let w = l.0.weight in
        (omega arith, omega (arith, l.1, length-drop c.at ws, (set_here so i).0.readable.within))

    -- the place behind it is one of the book
    pub set_ends : c.at + place ≤ 2 ^ 20
    set_ends = omega (arith, behind_there.1, so.readable.short)

    -- the four words of its head stand there
    pub set_readable : Readable 4 (part_at ws c.at)
    set_readable = rw (from_is ws c.at) (record {
      within = omega (arith, behind_there.0, tally_there.1);
      short = omega (arith, length-drop c.at ws, so.readable.short);
    })

    pub tally_small : TallyFits t
    tally_small = tally_fits tally_there.0 (omega (arith, behind_there.1, so.readable.short))

    pub plus_roomy : (x : SetWords) {more : Sums} → more ≡ set_sums (set_of x) t → SumsRoomy c.sums × SumsRoomy more
    plus_roomy x q = (sums_roomy (set_here so i).0, rw q (set_roomy x tally_small))

    pub step_whole : {x : SetWords} → x ≡ set_words (part_at ws c.at) → {more : Sums} → more ≡ set_sums (set_of x) t → {s : Sums} → s ≡ plus c.sums more → Right ws c (Ok (step.On (item_cursor c.bands (c.at + place) s)))
    unfolding ahead
    step_whole {x} xq {more} mq {s} sq =
        let d = set_words (drop c.at ws) in
        let brought : more ≡ set_sums (set_of d) t = mq ∙ ap (λ (y : SetWords). set_sums (set_of y) t) (xq ∙ ap set_words (from_is ws c.at)) in
        let made : s ≡ plus c.sums (set_sums (set_of d) t) = sq ∙ ap (plus c.sums) brought in
        rw made (
          rw e at told,
          (
            sound_item so (sums_with_set (set_here so i).0 d t place tally_there.0 behind_there.1),
            omega (arith, left_set ws c i, behind_there.0, behind_there.1),
          ),
        )

  module _ (x : Refusal) (e : r ≡ Err x) where
    pub step_refused : {y : Refusal} → y ≡ record { cause = x.cause; place = c.at + x.place } → Right ws c (Err y)
    step_refused yq = rw yq (rw e at told, tt)
