-- The loop holds a tally at a place (TradeLoop); each way out of it is a law there. Assumes nothing.
use mathlib.Core.Path.{◌∙◌}
use Rattle.std.proofs.lemmas.Result.{err_from_is_err_and}
use Rattle.financing.proofs.TradeLoop.{tally_roomy, trades_over, trade_stop, trade_room, trade_plain, trade_next_lem}
use Rattle.financing.proofs.trades.weigh.Goals as goal

pub financing_trade_words-requires : goal.financing_trade_words-requires
financing_trade_words-requires c = search trade_room

pub add-t-requires : goal.add-t-requires
add-t-requires c =
    let inv = c.loop-t.invariant in (
      tally_roomy _ _ _ inv c.requires.0.short,
      trade_plain _ _ _ inv _ c.good_trade.ensures c.loop-t-test.true _ c.financing_trade_words.ensures,
    )

pub loop-t-preserved : goal.loop-t-preserved
loop-t-preserved c = trade_next_lem _ _ _ c.loop-t.invariant _ c.good_trade.ensures c.loop-t-test.true _ c.financing_trade_words.ensures _ c.add-t.ensures

pub returns-else-standing : goal.returns-else-standing
returns-else-standing c = search trades_over

pub returns-in_err-at_place : goal.returns-in_err-at_place
returns-in_err-at_place c =
    let p = err_from_is_err_and c.from_residual.result c.from_residual.ensures.1 in
    let at_place = c.in_err-at_place.ensures in
    rw (p.1, p.2, at_place.1) (
    trade_stop _ _ _ c.loop-t.invariant _ c.good_trade.ensures c.loop-t-test.false _ c.standing.ensures c.if-standing.true _ c.bit-agent.ensures _ (at_place.0 ∙ c.check_trade_at.ensures)
    )
