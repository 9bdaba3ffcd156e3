use Rattle.settings.proofs.Taken.{trade_there, trade_moves, credit_there, credit_moves, basket_there, basket_moves, none_left}
use Rattle.settings.proofs.members.next_member.Goals as goal

pub with_trade-requires : goal.with_trade-requires
with_trade-requires c = trade_there _ _ _ c.requires c.standing.ensures c.if-standing.true

pub returns-then-standing : goal.returns-then-standing
returns-then-standing c = trade_moves _ _ _ c.requires c.standing.ensures c.if-standing.true c.with_trade.ensures

pub with_credit-requires : goal.with_credit-requires
with_credit-requires c = credit_there (c.args.bands) _ _ c.requires c.standing-2.ensures c.if-standing-2.true

pub returns-then-standing-2 : goal.returns-then-standing-2
returns-then-standing-2 c = credit_moves _ _ _ c.requires c.standing-2.ensures c.if-standing-2.true c.with_credit.ensures

pub with_basket-requires : goal.with_basket-requires
with_basket-requires c = basket_there (c.args.bands) _ _ c.requires c.standing-3.ensures c.if-standing-3.true

pub returns-then-standing-3 : goal.returns-then-standing-3
returns-then-standing-3 c = basket_moves _ _ _ c.requires c.standing-3.ensures c.if-standing-3.true c.with_basket.ensures

pub returns : goal.returns
returns c = none_left _ _ _ c.requires c.standing.ensures c.if-standing.false c.standing-2.ensures c.if-standing-2.false c.standing-3.ensures c.if-standing-3.false
