use Rattle.std.proofs.Common.{◌≡◌, ◌++◌, take}
use Rattle.std.specs.List.{flat_map}
use Rattle.resting_orders.specs.Rests.{order_text}
use Rattle.resting_orders.proofs.rests_text.append_orders.Given as goal

abbrev pub invariant-loop-order : goal.invariant-loop-order
invariant-loop-order l = l.text.items ≡ l.fn.text.items ++ flat_map (order_text l.page.form l.page.participants.now l.page.end l.who) (take l.order-index l.orders)
