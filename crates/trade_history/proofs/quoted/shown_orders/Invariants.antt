use Rattle.std.proofs.Common.{◌≡◌, map, take}
use Rattle.venue_rules.specs.Readings.{shown_order}
use Rattle.trade_history.proofs.quoted.shown_orders.Given as goal

abbrev pub invariant-loop-entry : goal.invariant-loop-entry
invariant-loop-entry l = l.orders.items ≡ map shown_order (take l.entry-index l.entries)
