use Rattle.std.proofs.Common.{◌≡◌, ◌++◌, take}
use Rattle.resting_orders.specs.Resting.{rested_in}
use Rattle.resting_orders.proofs.rested.push_entries.Given as goal

abbrev pub invariant-loop-entry : goal.invariant-loop-entry
invariant-loop-entry l = l.rested.items ≡ l.fn.rested.items ++ rested_in l.orders l.symbol (take l.entry-index l.entries)
