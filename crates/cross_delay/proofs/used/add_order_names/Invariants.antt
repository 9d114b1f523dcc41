use Rattle.std.proofs.Common.{◌≡◌, ◌≤◌, ◌+◌, ◌++◌, take}
use Rattle.cross_delay.specs.Used.{order_names}
use Rattle.cross_delay.proofs.used.add_order_names.Given as goal

abbrev pub invariant-loop-fact : goal.invariant-loop-fact
invariant-loop-fact l = (l.orders.names ≡ l.fn.orders.names ++ order_names (take l.fact-index l.facts)) × (l.fn.orders.headroom ≤ l.orders.headroom + l.fact-index)
