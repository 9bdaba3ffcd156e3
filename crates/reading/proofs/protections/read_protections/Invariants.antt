use Prim.Native.Nat.{◌-◌, ◌≤◌}
use mathlib.Core.Path.{◌≡◌}
use lib.ListN.{length}
use Rattle.rules.specs.Run.{run_from}
use Rattle.rules.specs.Read.{first_record, protection_turn}
use Rattle.reading.specs.Steps.{place_of}
use Rattle.reading.proofs.protections.read_protections.Given as goal

abbrev pub invariant-loop-i : goal.invariant-loop-i
invariant-loop-i l = (l.at ≤ length l.book) × (place_of (run_from (protection_turn l.book) l.b first_record) ≡ place_of (run_from (protection_turn l.book) (l.b - l._i) l.at))
