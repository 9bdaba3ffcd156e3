use Rattle.derivatives.proofs.Turns.{trade_faulty}
use Rattle.derivatives.proofs.TradeRuns.{run_moved}
use Rattle.derivatives.proofs.members.trade.Goals as goal

pub returns-then-run-at : goal.returns-then-run-at
returns-then-run-at c = trade_faulty c.requires.0 c.requires.1 c.unwrap_err.result (rw c.unwrap_err.ensures at c.fault_at.ensures) c.args.bands

pub returns : goal.returns
returns c = run_moved c.requires.1 c.trades-run.ensures c.if-run-at.false
