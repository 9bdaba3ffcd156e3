-- No cause has the number 0, which stands for none. Assumes nothing.
use mathlib.Core.Path.{◌≡◌}
use Prim.Native.Nat.{ℕ}
use Rattle.rules.specs.declared.causes.Cause.{Cause}
use Rattle.rules.specs.declared.causes.Cause.TheVariants.{RowsShort, BookLong, HeadFaulty, RegisterShort, KindNotAllowed, WordsLacking, PayloadFaulty, AmountFaulty, AmountsAtOdds, DaysFall, NoSuchProtection, ProtectionUnfit, CoverBeyond, EndFaulty, NoSuchSet, DateFaulty, BasketFaulty}
use Rattle.rules.specs.Numbers.{cause_number}

pub cause_some : (c : Cause) → cause_number c ≡ 0 → ⊥
cause_some RowsShort = λ e. cc
cause_some BookLong = λ e. cc
cause_some HeadFaulty = λ e. cc
cause_some RegisterShort = λ e. cc
cause_some KindNotAllowed = λ e. cc
cause_some WordsLacking = λ e. cc
cause_some PayloadFaulty = λ e. cc
cause_some AmountFaulty = λ e. cc
cause_some AmountsAtOdds = λ e. cc
cause_some DaysFall = λ e. cc
cause_some NoSuchProtection = λ e. cc
cause_some ProtectionUnfit = λ e. cc
cause_some CoverBeyond = λ e. cc
cause_some EndFaulty = λ e. cc
cause_some NoSuchSet = λ e. cc
cause_some DateFaulty = λ e. cc
cause_some BasketFaulty = λ e. cc
