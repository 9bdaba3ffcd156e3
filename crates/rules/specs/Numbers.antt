-- The numbers by which document 01 names causes, verdicts and kinds of words. Assumes nothing.
use Rattle.std.specs.Prelude.{codes, ℕ, List, ◌++◌, ◌≡◌, ◌≢◌, ◌<◌, Result, Ok, Err, MatchResult}
use Rattle.std.specs.Fmt.{decimal}
use Rattle.rules.specs.declared.causes.Cause.{Cause}
use Rattle.rules.specs.declared.causes.Cause.TheVariants.{RowsShort, BookLong, HeadFaulty, RegisterShort, KindNotAllowed, WordsLacking, PayloadFaulty, AmountFaulty, AmountsAtOdds, DaysFall, NoSuchProtection, ProtectionUnfit, CoverBeyond, EndFaulty, NoSuchSet, DateFaulty, BasketFaulty}
use Rattle.rules.specs.declared.causes.Refusal.{Refusal}
use Rattle.rules.specs.declared.verdicts.Verdict.{Verdict}
use Rattle.rules.specs.declared.verdicts.Verdict.TheVariants.{Met, Missed, NoExposure}
use Rattle.rules.specs.declared.kinds.Kind.{Kind}
use Rattle.rules.specs.declared.kinds.Kind.TheVariants as kind
use Rattle.rules.specs.declared.kinds.NoKind.{NoKind}

-- "When a book is turned away"; 15 is of request A.1, 16 of A.2 and 17 of A.3
abbrev pub cause_number : Cause → ℕ
cause_number RowsShort = 1
cause_number BookLong = 2
cause_number HeadFaulty = 3
cause_number RegisterShort = 4
cause_number KindNotAllowed = 5
cause_number WordsLacking = 6
cause_number PayloadFaulty = 7
cause_number AmountFaulty = 8
cause_number AmountsAtOdds = 9
cause_number DaysFall = 10
cause_number NoSuchProtection = 11
cause_number ProtectionUnfit = 12
cause_number CoverBeyond = 13
cause_number EndFaulty = 14
cause_number NoSuchSet = 15
cause_number DateFaulty = 16
cause_number BasketFaulty = 17

-- a refusal as it is printed
abbrev pub refused_text : Refusal → List ℕ
refused_text r = codes "refused " ++ decimal (cause_number r.cause) ++ codes " at " ++ decimal r.place

-- "Verdict 2 if row 21 is 0; 0 if 100 times row 20 is at least 3 times row 21; otherwise 1"
abbrev pub verdict_number : Verdict → ℕ
verdict_number Met = 0
verdict_number Missed = 1
verdict_number NoExposure = 2

-- "Records"
abbrev pub kind_number : Kind → ℕ
kind_number kind.Amount = 0
kind_number kind.Head = 1
kind_number kind.Asset = 2
kind_number kind.Protection = 3
kind_number kind.DerivativeSet = 4
kind_number kind.Trade = 5
kind_number kind.WrittenCredit = 6
kind_number kind.Cover = 7
kind_number kind.FinancingSet = 8
kind_number kind.FinancingTrade = 9
kind_number kind.OffBalance = 10
kind_number kind.Basket = 11
kind_number kind.End = 15

-- the kind of a number, or none: 12 to 14 are of no kind
abbrev pub KindOf : ℕ → Result Kind NoKind → Type 0
KindOf number r = MatchResult r (λ k. kind_number k ≡ number) (λ e. (e.0 ≡ number) × ((11 < number) × (number ≢ 15)))

-- the number of the cause for which something is turned away, or 0
abbrev pub fault_in : Result (Unit {0}) Cause → ℕ
fault_in (Ok u) = 0
fault_in (Err c) = cause_number c
