use Rattle.trade_reconstruction.proofs.Picturing.{resting_orders_are_shown}
use Rattle.trade_reconstruction.proofs.laws.each_resting_order_is_shown.Goals as goal

pub returns : goal.returns
returns c = resting_orders_are_shown
