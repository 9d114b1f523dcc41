use Rattle.std.proofs.Common.{◌≡◌, drop}
use Rattle.instruments.specs.Rows.{are_distinct}
use Rattle.instruments.proofs.reading.are_distinct.Given as goal

abbrev pub invariant-loop-place : goal.invariant-loop-place
invariant-loop-place l = are_distinct l.rows ≡ are_distinct (drop l.place l.rows)
