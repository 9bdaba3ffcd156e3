-- A derivative set that is being read, and what lies ahead in it: how it ends, and the draws of its covers up to there. The words are those
-- of the part of the book that begins at the set's head. Assumes nothing.
use Rattle.std.specs.Prelude.{ℕ, zero, suc, ◌+◌, ◌-◌, ◌*◌, ◌^◌, ◌≤◌, ◌<◌, ◌≡◌, false, List, [], ◌∷◌, ◌++◌, length, Option, Some, None, IfSome, Result, Ok, Err}
use Rattle.rules.specs.declared.Bands.{Bands}
use Rattle.rules.specs.declared.Draw.{Draw}
use Rattle.rules.specs.declared.causes.Refusal.{Refusal}
use Rattle.rules.specs.Numbers.{cause_number}
use Rattle.rules.specs.Word.{word, size_of}
use Rattle.rules.specs.Book.{Member, total}
use Rattle.rules.specs.Book as book
use Rattle.rules.specs.Run.{Run, run_from}
use Rattle.rules.specs.Read.{stands, cover_turn, written_at, member_turn}
use Rattle.rules.specs.Register.{draws_from, draws_of}
use Rattle.records.specs.Readable.{Readable}
use Rattle.weighing.specs.declared.tally.Tally.{Tally}
use Rattle.derivatives.specs.declared.covers.OpenCredit.{OpenCredit}
use Rattle.weighing.specs.declared.read.WrittenWords.{WrittenWords}
use Rattle.weighing.specs.declared.read.CoverWords.{CoverWords}
use Rattle.derivatives.specs.declared.trades.TradeRun.{TradeRun}
use Rattle.derivatives.specs.declared.set.OpenSet.{OpenSet}
use Rattle.derivatives.specs.declared.set.Weighed.{Weighed}
use Rattle.derivatives.specs.declared.set.Weighed.TheVariants.{Cover, Whole}
use Rattle.derivatives.specs.declared.members.MemberStep.{MemberStep}
use Rattle.derivatives.specs.declared.members.MemberStep.TheVariants.{Next, End}
use Rattle.derivatives.specs.declared.members.MemberStep.TheVariants as step
use Rattle.weighing.specs.Words.{written_words, cover_words, written_of, cover_of, sound_trade}
use Rattle.weighing.specs.Gathered.{no_tally, plus_members, plus_written}

-- ---- what lies ahead

-- all members, with their tally and the place behind them; or the first fault
pub data Ending : Type 0 where
  gathered : Tally → (place : ℕ) → Ending
  refused : (number place : ℕ) → Ending

pub record SetAhead : Type 0 where
  pub ending : Ending
  pub draws : List Draw

abbrev pub ends_with : Ending → SetAhead
ends_with e = record { ending = e; draws = [] }

abbrev pub after : List Draw → SetAhead → SetAhead
after ds a = record { ending = a.ending; draws = ds ++ a.draws }

abbrev pub ending_by : (number : ℕ) → Tally → (place : ℕ) → Ending
ending_by zero t place = gathered t place
ending_by (suc number) t place = refused (suc number) place

-- from a member on: the run of the members, on top of a tally. The set begins at a place of the book.
abbrev pub members_ahead : Bands → (begin : ℕ) → Tally → Run Member → SetAhead
members_ahead bands begin t r = record { ending = ending_by r.number (plus_members bands t r.records) r.place; draws = draws_of begin r.records }

unfoldable pub from_member : Bands → List ℕ → (begin : ℕ) → Tally → (at : ℕ) → SetAhead
from_member bands ws begin t at = members_ahead bands begin t (run_from (member_turn ws) (suc (length ws)) at)

-- from a cover on: the run of the open credit's covers, then the members
abbrev pub tally_with : List ℕ → Tally → OpenCredit → (more : ℕ) → Tally
tally_with ws t c more = plus_written t (written_at ws c.place []) (c.covered + more)

abbrev pub covers_by : Bands → List ℕ → (begin : ℕ) → Tally → OpenCredit → (number : ℕ) → List book.Cover → (place : ℕ) → SetAhead
covers_by bands ws begin t c zero cs place =
    after (draws_from begin c.room (written_at ws c.place []) cs) (from_member bands ws begin (tally_with ws t c (total (λ (x : book.Cover). x.amount) cs)) place)
covers_by bands ws begin t c (suc number) cs place = after (draws_from begin c.room (written_at ws c.place []) cs) (ends_with (refused (suc number) place))

abbrev pub covers_ahead : Bands → List ℕ → (begin : ℕ) → Tally → OpenCredit → Run book.Cover → SetAhead
covers_ahead bands ws begin t c r = covers_by bands ws begin t c r.number r.records r.place

unfoldable pub from_cover : Bands → List ℕ → (begin : ℕ) → Tally → OpenCredit → (at : ℕ) → SetAhead
from_cover bands ws begin t c at = covers_ahead bands ws begin t c (run_from (cover_turn ws) (suc (length ws)) at)

-- from a cover of the open credit on, if there is one, else from a member on
abbrev pub ahead_by : Bands → List ℕ → (begin : ℕ) → Tally → (at : ℕ) → Option OpenCredit → SetAhead
ahead_by bands ws begin t at None = from_member bands ws begin t at
ahead_by bands ws begin t at (Some c) = from_cover bands ws begin t c at

-- from where a set that is being read stands
unfoldable pub set_ahead : Bands → List ℕ → (begin : ℕ) → OpenSet → SetAhead
set_ahead bands ws begin o = ahead_by bands ws begin o.tally o.at o.credit

-- turned away, by the paper's number
abbrev pub turned_away : Refusal → SetAhead
turned_away r = ends_with (refused (cause_number r.cause) r.place)

-- ---- a cover of the open credit

abbrev pub draw_of : WrittenWords → CoverWords → (at room : ℕ) → Draw
draw_of w c at room = record {
  at = at;
  entity = (written_of w).entity;
  rank = (written_of w).rank;
  days = (written_of w).days;
  room = room;
  protection = (cover_of c).protection;
  amount = (cover_of c).amount;
}

-- the cover at a place. The part begins at a place of the book.
abbrev pub draw_here : List ℕ → (begin at : ℕ) → OpenCredit → Draw
draw_here ws begin at c = draw_of (written_words ws c.place) (cover_words ws at) (begin + at) c.room

abbrev pub plus_cover : OpenCredit → (amount : ℕ) → OpenCredit
plus_cover c amount = record { place = c.place; covered = c.covered + amount; room = c.room - amount }

-- the tally with the open credit in it, if there is one, now that its covers are over
abbrev pub closed_by : List ℕ → Tally → Option OpenCredit → Tally
closed_by ws t None = t
closed_by ws t (Some c) = plus_written t (written_at ws c.place []) c.covered

unfoldable pub closed_tally : List ℕ → OpenSet → Tally
closed_tally ws o = closed_by ws o.tally o.credit

-- ---- a set whose head was read

-- its members stand behind its three amounts
abbrev pub new_set : OpenSet
new_set = record { at = 4; tally = no_tally; credit = None }

-- ---- how large it all is: 2 ^ 41 for each word behind the head

pub record TallyUpTo (t : Tally) (at : ℕ) : Type 0 where
  pub weight : 2000 * t.gains + 2 * t.gross + 1000 * t.written + 1000 * t.covered + 2 ^ 41 * 4 ≤ 2 ^ 41 * at
  pub losses : t.losses ≤ 2 ^ 27 * at
  pub uncovered : t.uncovered ≤ t.gross

-- a credit whose record stands before a place, with no more loss than notional
pub record OpenIn (ws : List ℕ) (c : OpenCredit) (at : ℕ) : Type 0 where
  pub before : c.place + 6 ≤ at
  pub under : size_of (word ws (c.place + 3)) ≤ size_of (word ws (c.place + 2))
  pub covered : c.covered + 2 ^ 27 * (c.place + 6) ≤ 2 ^ 27 * at

-- up to where the tally has gathered
abbrev pub gathered_to : (at : ℕ) → Option OpenCredit → ℕ
gathered_to at None = at
gathered_to at (Some c) = c.place

pub record SoundSet (ws : List ℕ) (o : OpenSet) : Type 0 where
  pub readable : Readable o.at ws
  pub small : TallyUpTo o.tally (gathered_to o.at o.credit)
  pub credit : IfSome o.credit (λ c. OpenIn ws c o.at)

-- where a member is due, with a tally of all before
pub record Standing (ws : List ℕ) (at : ℕ) (t : Tally) : Type 0 where
  pub readable : Readable at ws
  pub small : TallyUpTo t at

-- ---- the answers

-- neither a trade nor a written credit stands at a place
abbrev pub Neither : List ℕ → ℕ → Type 0
Neither ws at = (stands 5 ws at ≡ false) × (stands 6 ws at ≡ false)

-- one step: a member more, a cover to be drawn, neither a trade nor a written credit, or a fault
abbrev pub step_ahead : Bands → List ℕ → (begin at : ℕ) → Result MemberStep Refusal → SetAhead
step_ahead bands ws begin at (Ok (Next o)) = set_ahead bands ws begin o
step_ahead bands ws begin at (Ok (step.Cover d o)) = after (d ∷ []) (set_ahead bands ws begin o)
step_ahead bands ws begin at (Ok (End t)) = from_member bands ws begin t at
step_ahead bands ws begin at (Err r) = turned_away r

abbrev pub SoundStep : List ℕ → (at : ℕ) → Result MemberStep Refusal → Type 0
SoundStep ws at (Ok (Next o)) = SoundSet ws o × (at < o.at)
SoundStep ws at (Ok (step.Cover d o)) = SoundSet ws o
SoundStep ws at (Ok (End t)) = TallyUpTo t at × Neither ws at
SoundStep ws at (Err r) = r.place ≤ length ws

-- what stood where a member was due, wherever the set begins
abbrev pub MemberRead : Bands → List ℕ → (at : ℕ) → Tally → Result MemberStep Refusal → Type 0
MemberRead bands ws at t r = ((begin : ℕ) → from_member bands ws begin t at ≡ step_ahead bands ws begin at r) × SoundStep ws at r

-- a run of trades from a place on, up to where no trade without a fault stands
pub record TradesRead (bands : Bands) (ws : List ℕ) (from : ℕ) (t : Tally) (r : TradeRun) : Type 0 where
  pub same : (begin : ℕ) → from_member bands ws begin t from ≡ from_member bands ws begin r.tally r.next
  pub standing : Standing ws r.next r.tally
  pub reached : from ≤ r.next
  pub over : sound_trade ws r.next ≡ false

-- a stretch of them from a place on, up to a cover or to where neither a trade nor a written credit stands
abbrev pub stretch_ahead : Bands → List ℕ → (begin : ℕ) → Result Weighed Refusal → SetAhead
stretch_ahead bands ws begin (Ok (Cover d o)) = after (d ∷ []) (set_ahead bands ws begin o)
stretch_ahead bands ws begin (Ok (Whole t place)) = from_member bands ws begin t place
stretch_ahead bands ws begin (Err r) = turned_away r

abbrev pub SoundStretch : List ℕ → (from : ℕ) → Result Weighed Refusal → Type 0
SoundStretch ws from (Ok (Cover d o)) = SoundSet ws o
SoundStretch ws from (Ok (Whole t place)) = Standing ws place t × (Neither ws place × (from ≤ place))
SoundStretch ws from (Err r) = r.place ≤ length ws

-- a basket, if one stands there; a refusal is of that basket, and of no record behind it
abbrev pub BasketTaken : List ℕ → (at : ℕ) → Tally → Result (Option OpenSet) Refusal → Type 0
BasketTaken ws at t (Ok (Some o)) = (bands : Bands) → MemberRead bands ws at t (Ok (Next o))
BasketTaken ws at t (Ok None) = stands 11 ws at ≡ false
BasketTaken ws at t (Err r) = ((bands : Bands) → MemberRead bands ws at t (Err r)) × (r.place ≡ at)

-- the next cover, or the end
abbrev pub weighed_ahead : Bands → List ℕ → (begin : ℕ) → Result Weighed Refusal → SetAhead
weighed_ahead bands ws begin (Ok (Cover d o)) = after (d ∷ []) (set_ahead bands ws begin o)
weighed_ahead bands ws begin (Ok (Whole t place)) = ends_with (gathered t place)
weighed_ahead bands ws begin (Err r) = turned_away r

abbrev pub SoundWeighed : List ℕ → Result Weighed Refusal → Type 0
SoundWeighed ws (Ok (Cover d o)) = SoundSet ws o
SoundWeighed ws (Ok (Whole t place)) = TallyUpTo t place × (place ≤ length ws)
SoundWeighed ws (Err r) = r.place ≤ length ws
