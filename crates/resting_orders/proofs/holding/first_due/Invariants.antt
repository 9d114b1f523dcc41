use Rattle.std.proofs.Common.{◌≡◌, take}
use Rattle.resting_orders.specs.Holding.{first_due}
use Rattle.resting_orders.proofs.HeldSides.{IsPassed}
use Rattle.resting_orders.proofs.holding.first_due.Given as goal

abbrev pub invariant-loop-side : goal.invariant-loop-side
invariant-loop-side l = (l.due ≡ first_due l.moment (take l.side-index l.held)) × IsPassed l.moment l.due
