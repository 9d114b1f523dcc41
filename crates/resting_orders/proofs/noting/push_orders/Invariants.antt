use Rattle.std.proofs.Common.{◌≡◌, take}
use Rattle.resting_orders.specs.Noting.{orders_after}
use Rattle.resting_orders.proofs.noting.push_orders.Given as goal

abbrev pub invariant-loop-reply : goal.invariant-loop-reply
invariant-loop-reply l = l.orders.items ≡ orders_after l.at l.fn.orders.items (take l.reply-index l.replies)
