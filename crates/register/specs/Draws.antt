-- What becomes of one entry by a draw, and of the register by all draws of a book. Assumes nothing.
use Rattle.std.specs.Prelude.{ℕ, cond, List, [], ◌∷◌, eqb, leb, get_or, set, Result, Ok, Err}
use Rattle.rules.specs.declared.Draw.{Draw}
use Rattle.rules.specs.declared.Entry.{Entry}
use Rattle.rules.specs.declared.Sums.{Sums}
use Rattle.rules.specs.declared.causes.Cause.{Cause}
use Rattle.rules.specs.declared.causes.Refusal.{Refusal}
use Rattle.rules.specs.Numbers.{cause_number}
use Rattle.rules.specs.Faults.{cause}
use Rattle.rules.specs.Register.{blank, unfit_for, draw_fault, drawn_from, drawn, Settled, unfit, settled, settle}
use Rattle.reading.specs.Admission.{Admission}
use Rattle.reading.specs.Admission.{Admitted, Refused}
use Rattle.reading.specs.Steps.{refused_by}
use Rattle.reading.specs.Ahead.{records_ahead}
use Rattle.register.specs.Loading.{loaded_from}

-- ---- one draw

-- an entry after a draw: as it was, where the draw does not fit it
unfoldable pub drawn_down : Entry → Draw → Entry
drawn_down e d = cond (eqb (unfit_for e d) 0) (drawn_from e d.amount) e

-- the code answers with the entry after the draw, or with the cause: its number, 0 where the draw fits, and what becomes of the entry
abbrev pub answer_number : Result Entry Cause → ℕ
answer_number (Ok after) = 0
answer_number (Err c) = cause_number c

abbrev pub entry_after : Entry → Result Entry Cause → Entry
entry_after e (Ok after) = after
entry_after e (Err c) = e

-- a draw from the first b entries: its number, and the entries after it
unfoldable pub fault_in : (b : ℕ) → List Entry → Draw → ℕ
fault_in b entries d = cause 11 (leb b d.protection) (unfit_for (get_or entries d.protection blank) d)

unfoldable pub drawn_in : (b : ℕ) → List Entry → Draw → List Entry
drawn_in b entries d =
    cond (leb b d.protection) entries
    (set entries d.protection (drawn_down (get_or entries d.protection blank) d))

-- ---- all draws

-- what a book comes to, as the code answers it
abbrev pub admission_in : Result Sums Refusal → Admission
admission_in (Ok sums) = Admitted sums
admission_in (Err r) = refused_by r

-- "the first faulty record": a cover that does not fit stands before the place at which the reading ends
abbrev pub first_fault : Admission → Settled → Admission
first_fault r (unfit number place) = Refused number place
first_fault r (settled entries) = r

-- the entries after the draws before the first that does not fit
unfoldable pub left_by : List Entry → List Draw → List Entry
left_by entries [] = entries
left_by entries (d ∷ ds) = cond (eqb (draw_fault entries d) 0) (left_by (drawn entries d) ds) entries

-- those of a book with b protections
unfoldable pub reading_after : List ℕ → (b : ℕ) → Admission
reading_after ws b = first_fault (records_ahead ws).reading (settle (loaded_from ws b 0) (records_ahead ws).draws)

unfoldable pub left_after : List ℕ → (b : ℕ) → List Entry
left_after ws b = left_by (loaded_from ws b 0) (records_ahead ws).draws
