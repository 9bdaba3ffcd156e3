-- An answer in one number, of a filing and of a set that is shown. Assumes nothing.
use mathlib.Core.Path.{◌≡◌, ap}
use mathlib.Core.List.{List}
use lib.IntN.{ℤ}
use Rattle.rules.specs.declared.Entry.{Entry}
use Rattle.rules.specs.Filing.{Filing}
use Rattle.std.specs.Prelude.{Result}
use Rattle.rules.specs.declared.causes.Refusal.{Refusal}
use Rattle.rules.specs.declared.verdicts.Verdict.{Verdict}
use Rattle.filing.specs.Answers.{filed}
use Rattle.leverage.specs.Packed.{packed, packed_answer}

-- what a filing says of the packed answer, the rows and the register
pub unpacked : (r : Result Verdict Refusal) (rows : List ℤ) (register : List Entry) (f : Filing) → filed r rows register ≡ f → (packed_answer r ≡ packed f) × ((rows ≡ f.rows) × (register ≡ f.register))
unpacked r rows register f e = (ap packed e, (ap (λ (x : Filing). x.rows) e, ap (λ (x : Filing). x.register) e))
