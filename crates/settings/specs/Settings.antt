-- Request A.12, "Which papers to chase": how many settings of a derivative set's six marks lead to each verdict, and with which number and place it is
-- answered. Assumes nothing.
use Rattle.std.specs.Prelude.{ℕ, cond, List, eqb, pos, length, replicate, Result, Ok, Err}
use Rattle.std.proofs.Math.Option.{Option, none, some}
use Rattle.std.proofs.Math.ListN.{get_elem?}
use Rattle.rules.specs.declared.Entry.{Entry}
use Rattle.rules.specs.declared.causes.Refusal.{Refusal}
use Rattle.rules.specs.Numbers.{cause_number}
use Rattle.rules.specs.Book.{Item, asset, derivatives, financing, off_balance, Placed}
use Rattle.rules.specs.Weigh.{sum_below}
use Rattle.rules.specs.Filing.{Outcome, early, refused, accepted, admission, filing}
use Rattle.other_marks.specs.Marked.{settings, book_with}
use Rattle.sets.specs.Sets.{sets_of}
use Rattle.settings.specs.declared.Counts.{Counts}

-- the number and the place that are answered, and how many settings lead to verdict 0, to verdict 1 and to verdict 2
pub record Counted : Type 0 where
  pub number : ℕ
  pub place : ℕ
  pub met : ℕ
  pub missed : ℕ
  pub no_exposure : ℕ

-- the verdict of the filing of the book in which the set that begins at a place has the marks m. No rows are lent to this call: these are as many as
-- a filing needs, and what rows and register hold has no part in a verdict (crate papers, `SameVerdict`).
abbrev pub verdict_with : List ℕ → List Entry → (head m : ℕ) → ℕ
verdict_with ws register head m = (filing (book_with ws head m) (replicate 22 (pos 0)) register).verdict

-- of the settings below n, how many lead to a verdict
abbrev pub leading : (verdicts : ℕ → ℕ) (verdict n : ℕ) → ℕ
leading verdicts verdict n = sum_below n (λ m. cond (eqb (verdicts m) verdict) 1 0)

-- "Go through all 64 settings of the set's six marks and report how many lead to each verdict"
unfoldable pub how_many : (verdicts : ℕ → ℕ) (verdict : ℕ) → ℕ
how_many verdicts verdict = leading verdicts verdict settings

abbrev pub counts_of : (ℕ → ℕ) → Counted
counts_of verdicts = record { number = 0; place = 0; met = how_many verdicts 0; missed = how_many verdicts 1; no_exposure = how_many verdicts 2 }

-- "every refusal has all three counts 0"
abbrev pub turned_away : (number place : ℕ) → Counted
turned_away number place = record { number = number; place = place; met = 0; missed = 0; no_exposure = 0 }

-- "An ordinal that names no derivative set is refused 15", at place 0 as in A.1
abbrev pub counted_item : List ℕ → List Entry → (head : ℕ) → Item → Counted
counted_item ws register head (asset a) = turned_away 15 0
counted_item ws register head (derivatives s) = counts_of (verdict_with ws register head)
counted_item ws register head (financing s) = turned_away 15 0
counted_item ws register head (off_balance o) = turned_away 15 0

abbrev pub counted_set : List ℕ → List Entry → Option Placed → Counted
counted_set ws register none = turned_away 15 0
counted_set ws register (some p) = counted_item ws register p.begin p.item

-- "Ordinals, rows, register and place are as in A.1": a refused book gives its own number and place, whatever the ordinal
abbrev pub counted_in : List ℕ → (ordinal : ℕ) → List Entry → Outcome → Counted
counted_in ws ordinal register (early number) = turned_away number 0
counted_in ws ordinal register (refused number place) = turned_away number place
counted_in ws ordinal register (accepted items left) = counted_set ws register (get_elem? (sets_of items) ordinal)

-- a book, an ordinal and the lent register
unfoldable pub counting : List ℕ → (ordinal : ℕ) → List Entry → Counted
counting ws ordinal register = counted_in ws ordinal register (admission ws (length register))

-- ---- as the code answers it

abbrev pub with_counts : Counts → Counted
with_counts c = record { number = 0; place = 0; met = c.met; missed = c.missed; no_exposure = c.no_exposure }

abbrev pub counted_as : Result Counts Refusal → Counted
counted_as (Ok c) = with_counts c
counted_as (Err r) = turned_away (cause_number r.cause) r.place
