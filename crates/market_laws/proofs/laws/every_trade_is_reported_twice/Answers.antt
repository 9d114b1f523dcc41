use Rattle.market_laws.proofs.TradeReports.{trades_in_pairs}
use Rattle.market_laws.proofs.laws.every_trade_is_reported_twice.Goals as goal

pub returns : goal.returns
returns c = trades_in_pairs
