use Rattle.trade_reconstruction.proofs.Orders.{book_trades_have_orders}
use Rattle.trade_reconstruction.proofs.laws.each_book_trade_has_its_orders.Goals as goal

pub returns : goal.returns
returns c = book_trades_have_orders c.every_book_trade_is_lawful.ensures.best_order c.every_report_is_numbered.ensures.places
