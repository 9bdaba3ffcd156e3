-- A cursor by where it stands, and one step of it. Assumes nothing.
use Prim.Native.Nat.{ℕ, ◌+◌, ◌-◌, ◌*◌, ◌≤◌, ◌<◌}
use mathlib.Core.Path.{◌≡◌, refl, sym, ◌∙◌, ap}
use mathlib.Core.Bool.{Bool, true, false, cond}
use mathlib.Core.List.{List}
use native.Mathlib.Omega.{arith}
use native.Mathlib.Nat.{zero-add}
use lib.Dec.{eqb}
use lib.ListN.{length, drop}
use Rattle.rules.specs.declared.Bands.{Bands}
use Rattle.rules.specs.declared.Sums.{Sums}
use Rattle.rules.specs.Run.{run_from}
use Rattle.rules.specs.Read.{first_record, head_of, protection_turn, protections_of, items_of}
use Rattle.rules.specs.Register.{draws_over}
use Rattle.rules.specs.Rows.{sums_of}
use Rattle.rules.proofs.Runs.{fine_run}
use Rattle.laws.proofs.MemberBounds.{per_word}
use Rattle.laws.proofs.ItemBounds.{nothing, fine_protection}
use Rattle.derivatives.specs.declared.set.OpenSet.{OpenSet}
use Rattle.derivatives.specs.Ahead.{new_set, SoundSet}
use Rattle.std.specs.Prelude.{Result, Ok, Err}
use Rattle.rules.specs.declared.causes.Refusal.{Refusal}
use Rattle.rules.specs.Numbers.{cause_number}
use Rattle.reading.specs.declared.cursor.Cursor.{Cursor}
use Rattle.reading.specs.declared.cursor.Stage.TheVariants as stage
use Rattle.reading.specs.declared.items.ItemAnswer.{ItemAnswer}
use Rattle.reading.specs.declared.items.ItemAnswer.TheVariants as item
use Rattle.reading.specs.declared.steps.Step.{Step}
use Rattle.reading.specs.declared.steps.Step.TheVariants as step
use Rattle.reading.specs.Steps.{Protections, upto, refused, place_of, reading_of, all_sums, SumsUpTo}
use Rattle.records.specs.Sums.{no_sums}
use Rattle.reading.specs.Ahead.{from_item, from_set, records_ahead, stage_ahead, ahead, Sound, left_at, left, answer_ahead, AnswersItem, step_ahead, SoundStep}

-- ---- where it stands

abbrev pub item_cursor : Bands → ℕ → Sums → Cursor
item_cursor bands at s = record { stage = stage.Items; at = at; sums = s; bands = bands }

abbrev pub set_cursor : Bands → ℕ → Sums → OpenSet → Cursor
set_cursor bands at s o = record { stage = stage.Set o; at = at; sums = s; bands = bands }

module _ {ws : List ℕ} {c : Cursor} (so : Sound ws c) where
  pub sound_item : {at : ℕ} {s : Sums} → SumsUpTo ws s at → Sound ws (item_cursor c.bands at s)
  sound_item f = record { readable = so.readable; bands = so.bands; stage = f }

  pub sound_set : {at : ℕ} {s : Sums} {o : OpenSet} → SumsUpTo ws s at → SoundSet (drop at ws) o → Sound ws (set_cursor c.bands at s o)
  sound_set f t = record { readable = so.readable; bands = so.bands; stage = (f, t) }

  pub items_here : c.stage ≡ stage.Items → SumsUpTo ws c.sums c.at
  items_here e = rw e at so.stage

  pub set_here : {o : OpenSet} → c.stage ≡ stage.Set o → SumsUpTo ws c.sums c.at × SoundSet (drop c.at ws) o
  set_here e = rw e at so.stage

module _ (ws : List ℕ) (c : Cursor) where
  pub ahead_first : c.stage ≡ stage.Protections → ahead ws c ≡ records_ahead ws
  unfolding ahead
  ahead_first e = ap (stage_ahead ws c.sums c.at) e

  pub ahead_item : c.stage ≡ stage.Items → ahead ws c ≡ from_item (head_of ws).bands ws c.sums c.at
  unfolding ahead
  ahead_item e = ap (stage_ahead ws c.sums c.at) e

  pub ahead_set : {o : OpenSet} → c.stage ≡ stage.Set o → ahead ws c ≡ from_set (head_of ws).bands ws c.sums c.at o
  unfolding ahead
  ahead_set e = ap (stage_ahead ws c.sums c.at) e

  left_first : c.stage ≡ stage.Protections → left ws c ≡ 2 * length ws + 2
  left_first e = ap (left_at ws c.at) e

  left_item : c.stage ≡ stage.Items → left ws c ≡ 2 * (length ws - c.at) + 1
  left_item e = ap (left_at ws c.at) e

  pub left_set : {o : OpenSet} → c.stage ≡ stage.Set o → left ws c ≡ 2 * (length ws - c.at)
  left_set e = ap (left_at ws c.at) e

-- ---- where an item is due: by the answer there

-- a step is right
abbrev pub Right : List ℕ → Cursor → Result Step Refusal → Type 0
Right ws c r = (ahead ws c ≡ step_ahead ws r) × SoundStep ws c r

module _ {ws : List ℕ} {c : Cursor} (so : Sound ws c) (i : c.stage ≡ stage.Items)
    (r : Result ItemAnswer Refusal) (q : AnswersItem ws c.sums c.at r) where
  told : ahead ws c ≡ answer_ahead (head_of ws).bands ws c.sums c.at r
  told = ahead_item ws c i ∙ q.0 (head_of ws).bands

  pub step_more : (sums : Sums) (next : ℕ) → r ≡ Ok (item.More sums next) → Right ws c (Ok (step.On (item_cursor c.bands next sums)))
  unfolding ahead
  step_more sums next e =
      let f : SumsUpTo ws sums next × (c.at < next) = rw e at q.1 in
      (rw e at told, (sound_item so f.0, omega (arith, left_item ws c i, f.0.readable.within, f.1)))

  pub step_set : r ≡ Ok item.Set → (o : OpenSet) → o ≡ new_set → Right ws c (Ok (step.On (set_cursor c.bands c.at c.sums o)))
  unfolding ahead
  step_set e o oq =
      let t : SoundSet (drop c.at ws) new_set = rw e at q.1 in
      rw oq (rw e at told, (sound_set so (items_here so i) t, omega (arith, left_item ws c i)))

  pub step_end : r ≡ Ok item.End → Right ws c (Ok (step.Over c.sums))
  step_end e = (rw e at told, tt)

  pub step_refused : (x : Refusal) → r ≡ Err x → Right ws c (Err x)
  step_refused x e = (rw e at told, tt)

-- ---- past the protections

protections_within : (ws : List ℕ) → first_record ≤ length ws → (protections_of ws).place ≤ length ws
unfolding protections_of
protections_within ws l = (fine_run (length ws) per_word nothing (protection_turn ws) (fine_protection ws) (head_of ws).protections first_record l).within

module _ {ws : List ℕ} {c : Cursor} (so : Sound ws c) (b : c.stage ≡ stage.Protections)
    (k : ℕ) (kq : k ≡ (head_of ws).protections) (r : Protections) (q : r ≡ place_of (run_from (protection_turn ws) k first_record)) where
  whole : r ≡ place_of (protections_of ws)
  unfolding protections_of
  whole = rw kq at q

  pub step_faulty : (x : Refusal) → r ≡ refused (cause_number x.cause) x.place → Right ws c (Err x)
  unfolding place_of records_ahead reading_of items_of draws_over
  step_faulty x e = go (eqb (protections_of ws).number 0) refl (sym whole ∙ e)
    where
      go : (t : Bool) → eqb (protections_of ws).number 0 ≡ t → cond t (upto (protections_of ws).place) (refused (protections_of ws).number (protections_of ws).place) ≡ refused (cause_number x.cause) x.place
          → Right ws c (Err x)
      go true h w = let z : ◌≡◌ {A = ℕ} 0 1 = cc in absurd (omega arith)
      go false h w =
          let n : (protections_of ws).number ≡ cause_number x.cause = cc in
          let p : (protections_of ws).place ≡ x.place = cc in
          rw (← n, ← p) (ahead_first ws c b ∙ simp h, tt)

  pub step_upto : (at : ℕ) → r ≡ upto at → (s : Sums) → s ≡ no_sums → Right ws c (Ok (step.On (item_cursor c.bands at s)))
  unfolding place_of records_ahead reading_of items_of ahead from_item sums_of all_sums
  step_upto at e s sq = rw sq (go (eqb (protections_of ws).number 0) refl (sym whole ∙ e))
    where
      go : (t : Bool) → eqb (protections_of ws).number 0 ≡ t → cond t (upto (protections_of ws).place) (refused (protections_of ws).number (protections_of ws).place) ≡ upto at
          → Right ws c (Ok (step.On (item_cursor c.bands at no_sums)))
      go true h w =
          let y : (protections_of ws).place ≡ at = cc in
          let l : at ≤ length ws = rw (← y) (protections_within ws so.readable.within) in
          (ahead_first ws c b ∙ simp (h, y, zero-add), (sound_item so (record { readable = record { within = l; short = so.readable.short }; small = omega arith }), omega (arith, left_first ws c b, l)))
      go false h w = let z : ◌≡◌ {A = ℕ} 0 1 = cc in absurd (omega arith)

-- ---- step by step

-- a cursor that was come to from another: what lies ahead is the same
pub record Reached (ws : List ℕ) (from c : Cursor) : Type 0 where
  pub same : ahead ws from ≡ ahead ws c
  pub sound : Sound ws c
