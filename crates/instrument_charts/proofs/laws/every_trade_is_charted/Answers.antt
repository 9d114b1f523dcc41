use Rattle.instrument_charts.proofs.EachTrade.{trades_are_charted}
use Rattle.instrument_charts.proofs.laws.every_trade_is_charted.Goals as goal

pub returns : goal.returns
returns c = trades_are_charted c.every_trade_is_found.ensures
