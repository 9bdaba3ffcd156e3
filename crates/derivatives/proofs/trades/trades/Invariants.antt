use Prim.Native.Nat.{◌-◌}
use lib.ListN.{length}
use Rattle.derivatives.proofs.TradeRuns.{Passing}
use Rattle.derivatives.proofs.trades.trades.Given as goal

abbrev pub invariant-loop-bands : goal.invariant-loop-bands
invariant-loop-bands l = Passing l.bands l.part l.from l.initial.tally l.tally l.at

abbrev pub decreases-loop-bands : goal.decreases-loop-bands
decreases-loop-bands l = length l.part - l.at
