use Rattle.market_laws.proofs.BookTrades.{book_trades_between_owners}
use Rattle.market_laws.proofs.laws.every_book_trade_is_between_its_owners.Goals as goal

pub returns : goal.returns
returns c = book_trades_between_owners
