use Prim.Native.Nat.{◌-◌}
use lib.ListN.{length}
use Rattle.financing.proofs.TradeLoop.{AtTrade}
use Rattle.financing.proofs.trades.weigh.Given as goal

abbrev pub invariant-loop-t : goal.invariant-loop-t
invariant-loop-t l = AtTrade l.part l.t l.at

abbrev pub decreases-loop-t : goal.decreases-loop-t
decreases-loop-t l = length l.part - l.at
