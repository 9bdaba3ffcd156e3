use mathlib.Core.Path.{◌≡◌}
use Prim.Native.Nat.{◌+◌, ◌*◌, ◌≤◌}
use Rattle.rules.specs.Calendar.{days_of, leap_days}
use Rattle.calendar.proofs.days_of_years.Given as goal

abbrev pub invariant-loop-k : goal.invariant-loop-k
invariant-loop-k l = (l.days ≡ 365 * l.years + days_of leap_days l.first l.k) × (l.days ≤ 365 * l.years + l.k)
