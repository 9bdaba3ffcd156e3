-- A book that is being read, and what lies ahead in it: what the reading comes to, and the draws of all covers up to there.
-- Assumes nothing.
use Rattle.std.specs.Prelude.{ℕ, suc, ◌+◌, ◌-◌, ◌*◌, ◌<◌, ◌≡◌, cond, Result, Ok, Err, List, [], ◌∷◌, ◌++◌, eqb, length, drop}
use Rattle.rules.specs.declared.Bands.{Bands}
use Rattle.rules.specs.declared.Draw.{Draw}
use Rattle.rules.specs.declared.Sums.{Sums}
use Rattle.rules.specs.declared.causes.Refusal.{Refusal}
use Rattle.rules.specs.Book.{Placed}
use Rattle.rules.specs.Run.{Run, run_from}
use Rattle.rules.specs.Read.{first_record, head_of, item_turn, items_of}
use Rattle.rules.specs.Register.{draws_over}
use Rattle.rules.specs.Rows.{sums_of}
use Rattle.records.specs.Readable.{Readable}
use Rattle.records.specs.Sums.{no_sums, plus}
use Rattle.derivatives.specs.declared.set.OpenSet.{OpenSet}
use Rattle.weighing.specs.Words.{set_words, set_of}
use Rattle.weighing.specs.Gathered.{set_sums}
use Rattle.derivatives.specs.Ahead.{Ending, gathered, refused, SetAhead, set_ahead, new_set, SoundSet}
use Rattle.reading.specs.Admission.{Admission}
use Rattle.reading.specs.Admission.{Admitted, Refused}
use Rattle.reading.specs.declared.cursor.Cursor.{Cursor}
use Rattle.reading.specs.declared.cursor.NextCover.{NextCover}
use Rattle.reading.specs.declared.cursor.NextCover.TheVariants as cover
use Rattle.reading.specs.declared.cursor.Stage.{Stage}
use Rattle.reading.specs.declared.cursor.Stage.TheVariants as stage
use Rattle.reading.specs.declared.items.ItemAnswer.{ItemAnswer}
use Rattle.reading.specs.declared.items.ItemAnswer.TheVariants as item
use Rattle.reading.specs.declared.steps.Step.{Step}
use Rattle.reading.specs.declared.steps.Step.TheVariants as step
use Rattle.reading.specs.Steps.{reading_of, refused_by, SumsUpTo}

-- ---- what lies ahead

pub record Ahead : Type 0 where
  pub reading : Admission
  pub draws : List Draw

abbrev pub ends_at : Admission → Ahead
ends_at r = record { reading = r; draws = [] }

abbrev pub after : List Draw → Ahead → Ahead
after ds a = record { reading = a.reading; draws = ds ++ a.draws }

-- from an item on: the run of the items, on top of some sums
abbrev pub plus_all : Bands → Sums → List Placed → Sums
plus_all bands s ps = plus s (sums_of bands ps)

abbrev pub items_ahead : Bands → Sums → Run Placed → Ahead
items_ahead bands s r = record {
  reading = cond (eqb r.number 0) (Admitted (plus_all bands s r.records)) (Refused r.number r.place);
  draws = draws_over r.records;
}

unfoldable pub from_item : Bands → List ℕ → Sums → (at : ℕ) → Ahead
from_item bands ws s at = items_ahead bands s (run_from (item_turn ws) (suc (length ws)) at)

-- from inside a derivative set that begins at a place: what lies ahead in the set, then the items
abbrev pub set_then : Bands → List ℕ → Sums → (begin : ℕ) → Ending → Ahead
set_then bands ws s begin (gathered t place) =
    from_item bands ws (plus s (set_sums (set_of (set_words (drop begin ws))) t)) (begin + place)
set_then bands ws s begin (refused number place) = ends_at (Refused number (begin + place))

abbrev pub set_behind : Bands → List ℕ → Sums → (begin : ℕ) → SetAhead → Ahead
set_behind bands ws s begin a = after a.draws (set_then bands ws s begin a.ending)

unfoldable pub from_set : Bands → List ℕ → Sums → (begin : ℕ) → OpenSet → Ahead
from_set bands ws s begin o = set_behind bands ws s begin (set_ahead bands (drop begin ws) begin o)

-- from the first record behind the head on
unfoldable pub records_ahead : List ℕ → Ahead
records_ahead ws = record { reading = reading_of (head_of ws).bands (items_of ws); draws = draws_over (items_of ws).records }

-- from where a book that is being read stands
abbrev pub stage_ahead : List ℕ → Sums → (at : ℕ) → Stage → Ahead
stage_ahead ws s at stage.Protections = records_ahead ws
stage_ahead ws s at stage.Items = from_item (head_of ws).bands ws s at
stage_ahead ws s at (stage.Set o) = from_set (head_of ws).bands ws s at o

unfoldable pub ahead : List ℕ → Cursor → Ahead
ahead ws c = stage_ahead ws c.sums c.at c.stage

-- ---- cursors

abbrev pub new_cursor : List ℕ → Cursor
new_cursor ws = record { stage = stage.Protections; at = first_record; sums = no_sums; bands = (head_of ws).bands }

-- behind the protections the sums and the tally are as large as their words allow
abbrev pub SoundStage : List ℕ → Sums → (at : ℕ) → Stage → Type 0
SoundStage ws s at stage.Protections = Unit {0}
SoundStage ws s at stage.Items = SumsUpTo ws s at
SoundStage ws s at (stage.Set o) = SumsUpTo ws s at × SoundSet (drop at ws) o

-- a cursor of a book: its bands are those of the head
pub record Sound (ws : List ℕ) (c : Cursor) : Type 0 where
  pub readable : Readable first_record ws
  pub bands : c.bands ≡ (head_of ws).bands
  pub stage : SoundStage ws c.sums c.at c.stage

-- how much is left to read: a step reads words, or goes into a set, or past the protections
abbrev pub left_at : List ℕ → (at : ℕ) → Stage → ℕ
left_at ws at stage.Protections = 2 * length ws + 2
left_at ws at stage.Items = 2 * (length ws - at) + 1
left_at ws at (stage.Set o) = 2 * (length ws - at)

abbrev pub left : List ℕ → Cursor → ℕ
left ws c = left_at ws c.at c.stage

-- ---- the answers

-- where an item is due: items, and the sums with them; a derivative set; the end word; or a fault
abbrev pub answer_ahead : Bands → List ℕ → Sums → (at : ℕ) → Result ItemAnswer Refusal → Ahead
answer_ahead bands ws s at (Ok (item.More sums next)) = from_item bands ws sums next
answer_ahead bands ws s at (Ok item.Set) = from_set bands ws s at new_set
answer_ahead bands ws s at (Ok item.End) = ends_at (Admitted s)
answer_ahead bands ws s at (Err r) = ends_at (refused_by r)

abbrev pub SoundAnswer : List ℕ → (at : ℕ) → Result ItemAnswer Refusal → Type 0
SoundAnswer ws at (Ok (item.More sums next)) = SumsUpTo ws sums next × (at < next)
SoundAnswer ws at (Ok item.Set) = SoundSet (drop at ws) new_set
SoundAnswer ws at (Ok item.End) = Unit {0}
SoundAnswer ws at (Err r) = Unit {0}

abbrev pub AnswersItem : List ℕ → Sums → (at : ℕ) → Result ItemAnswer Refusal → Type 0
AnswersItem ws s at r = ((bands : Bands) → from_item bands ws s at ≡ answer_ahead bands ws s at r) × SoundAnswer ws at r

-- one step of the reading
abbrev pub step_ahead : List ℕ → Result Step Refusal → Ahead
step_ahead ws (Ok (step.On c)) = ahead ws c
step_ahead ws (Ok (step.Cover d c)) = after (d ∷ []) (ahead ws c)
step_ahead ws (Ok (step.Over s)) = ends_at (Admitted s)
step_ahead ws (Err r) = ends_at (refused_by r)

abbrev pub SoundStep : List ℕ → Cursor → Result Step Refusal → Type 0
SoundStep ws c (Ok (step.On next)) = Sound ws next × (left ws next < left ws c)
SoundStep ws c (Ok (step.Cover d next)) = Sound ws next
SoundStep ws c (Ok (step.Over s)) = Unit {0}
SoundStep ws c (Err r) = Unit {0}

-- the next cover, or the end
abbrev pub next_ahead : List ℕ → Result NextCover Refusal → Ahead
next_ahead ws (Ok (cover.Cover d c)) = after (d ∷ []) (ahead ws c)
next_ahead ws (Ok (cover.Over s)) = ends_at (Admitted s)
next_ahead ws (Err r) = ends_at (refused_by r)

abbrev pub SoundNext : List ℕ → Result NextCover Refusal → Type 0
SoundNext ws (Ok (cover.Cover d c)) = Sound ws c
SoundNext ws (Ok (cover.Over s)) = Unit {0}
SoundNext ws (Err r) = Unit {0}
