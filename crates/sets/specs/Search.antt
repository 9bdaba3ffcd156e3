-- The search as the code has it: by the kinds of words alone, from the first item on. Assumes nothing.
use Rattle.std.specs.Prelude.{◌≡◌, ℕ, ◌+◌, ◌-◌, ◌≤◌, ◌<◌, Bool, true, false, cond, not, ◌||◌, List, Option, Some, None, Result, Ok, Err, eqb, ltb, length, get_or}
use Rattle.std.specs.Borrow.{Bor}
use denote.Param.Members.{Shared}
use Rattle.rules.specs.declared.causes.Refusal.{Refusal}
use Rattle.rules.specs.Numbers.{cause_number}
use Rattle.rules.specs.Word.{word, kind_of}
use Rattle.reading.specs.Admission.{Admission}
use Rattle.reading.specs.Admission as admission
use Rattle.cuts.proofs.Cutting.{items_begin}
use Rattle.cuts.proofs.Scan.{scan}
use Rattle.cuts.proofs.ByKind.{opens}
use Rattle.cuts.proofs.ByKind as by_kind
use Rattle.sets.specs.declared.sought.Sought.{Sought}
use Rattle.sets.specs.declared.sought.Sought.TheVariants.{Set, EndOfDerivatives, EndOfFinancing}
use Rattle.sets.specs.Sets.{Shown, turned_away, VeryStretch}

-- ---- what is sought

-- neither an amount nor a financing trade
abbrev pub leaves_financing : ℕ → Bool
leaves_financing kind = not (eqb kind 0 || eqb kind 9)

-- the kinds of words that are sought
abbrev pub passes : Sought → ℕ → Bool
passes Set kind = by_kind.is_set kind
passes EndOfDerivatives kind = opens kind
passes EndOfFinancing kind = leaves_financing kind

-- what ends the set whose head has this kind
abbrev pub end_of : ℕ → Sought
end_of kind = cond (eqb kind 8) EndOfFinancing EndOfDerivatives

-- the kinds of words that end the set whose head has this kind
abbrev pub ends : ℕ → (ℕ → Bool)
ends head = passes (end_of head)

-- ---- a search

-- a function of the code tells of each word whether its kind passes a test
abbrev pub Tells : {F : Type 0} → Shared F (ℕ × Unit {0}) Bool → F → (ℕ → Bool) → Type 0
Tells g f test = (w : ℕ) (r : Bool) → g.post f (w, tt) r → r ≡ test (kind_of w)

-- where it says so of the bits of some words, none of them passes: a word is no more than the bits of several, as a number
abbrev pub IsQuiet : {F : Type 0} → Shared F (ℕ × Unit {0}) Bool → F → (ℕ → Bool) → Type 0
IsQuiet g f test = (bits : ℕ) → g.post f (bits, tt) true → (w : ℕ) → w ≤ bits → test (kind_of w) ≡ false

-- from a place on, where the word stands that has this ordinal, from 0, among those whose kind passes a test; the book's length where there is none
unfoldable pub place_from : (ℕ → Bool) → List ℕ → (from ordinal : ℕ) → ℕ
place_from test ws from ordinal = get_or (scan test ws from (length ws - from)) ordinal (length ws)

-- the code answers with a place of a book of that length, or none
abbrev pub IsPlace : (length place : ℕ) → Option ℕ → Type 0
IsPlace length place (Some at) = (at ≡ place) × (at < length)
IsPlace length place None = place ≡ length

-- ---- the set that is found

abbrev pub found_at : List ℕ → ℕ → Shown
found_at ws begin =
    cond (ltb begin (length ws))
    (record { number = 0; place = 0; begin = begin; end = place_from (ends (kind_of (word ws begin))) ws (begin + 1) 0 })
    (turned_away 15 0)

-- in a book that was admitted or refused
abbrev pub found_in : List ℕ → ℕ → Admission → Shown
found_in ws ordinal (admission.Refused number place) = turned_away number place
found_in ws ordinal (admission.Admitted sums) = found_at ws (place_from by_kind.is_set ws (items_begin ws) ordinal)

-- it lies in the book
abbrev pub Within : List ℕ → Shown → Type 0
Within ws s = (s.begin ≤ s.end) × (s.end ≤ length ws)

-- ---- as the code answers it: the words of the set, or a refusal

abbrev pub Shows : Bor (List ℕ) → Shown → Result (Bor (List ℕ)) Refusal → Type 0
Shows book s (Ok r) = (s.number ≡ 0) × ((s.place ≡ 0) × VeryStretch book s r)
Shows book s (Err e) = s ≡ turned_away (cause_number e.cause) e.place
