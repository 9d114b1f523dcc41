use Rattle.std.proofs.Common.{◌≡◌, take}
use Rattle.trade_table.specs.Executions.{AreExecutions}
use Rattle.trade_table.proofs.executions.executions.Given as goal

abbrev pub invariant-loop-row : goal.invariant-loop-row
invariant-loop-row l = (l.venue.items ≡ l.row-index) × AreExecutions l.fn.venue.market (take l.row-index l.rows) l.venue l.known.items l.executions.items
