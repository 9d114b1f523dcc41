use Rattle.market_laws.proofs.Hitting.{resting_orders_trade, shown_orders_trade}
use Rattle.market_laws.proofs.laws.everybody_may_trade.Goals as goal

pub returns-clause-resting : goal.returns-clause-resting
returns-clause-resting c = resting_orders_trade

pub returns-clause-shown : goal.returns-clause-shown
returns-clause-shown c = shown_orders_trade
