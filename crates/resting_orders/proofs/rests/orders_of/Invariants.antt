use Rattle.std.proofs.Common.{◌≡◌, filter, take}
use Rattle.resting_orders.specs.Rests.{is_order_of}
use Rattle.resting_orders.proofs.rests.orders_of.Given as goal

abbrev pub invariant-loop-order : goal.invariant-loop-order
invariant-loop-order l = l.owned.items ≡ filter (is_order_of l.who) (take l.order-index l.orders)
