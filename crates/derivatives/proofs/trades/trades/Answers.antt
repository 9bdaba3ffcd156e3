-- The loop over trades, as the laws of a run say. Assumes nothing.
use Rattle.derivatives.proofs.TradeRuns.{words_there, passing_next}
use Rattle.derivatives.proofs.trades.trades.Goals as goal

pub read-requires : goal.read-requires
read-requires c = words_there c.loop-bands.invariant c.good_at.ensures c.loop-bands-test.true

pub loop-bands-preserved : goal.loop-bands-preserved
loop-bands-preserved c = passing_next c.loop-bands.invariant c.good_at.ensures c.loop-bands-test.true c.read.ensures c.add_trade-tally.ensures
