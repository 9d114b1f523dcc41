use Rattle.trade_reconstruction.proofs.Orders.{trades_have_rows}
use Rattle.trade_reconstruction.proofs.laws.each_trade_has_its_row.Goals as goal

pub returns : goal.returns
returns c = trades_have_rows
