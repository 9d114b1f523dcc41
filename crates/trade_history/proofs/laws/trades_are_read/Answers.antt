use Rattle.trade_history.proofs.TradeNumbers.{trades-count, trades-read}
use Rattle.trade_history.proofs.laws.trades_are_read.Goals as goal

pub returns : goal.returns
returns c = record {
  more = trades-read;
  count = trades-count;
}
