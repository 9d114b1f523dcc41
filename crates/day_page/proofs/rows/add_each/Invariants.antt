use Rattle.std.proofs.Common.{take}
use Rattle.day_page.specs.Rows.{AddsRows}
use Rattle.day_page.proofs.rows.add_each.Given as goal

abbrev pub invariant-loop-place : goal.invariant-loop-place
invariant-loop-place l = AddsRows l.participants l.rows (take l.place l.rows) l.fn.page l.page
