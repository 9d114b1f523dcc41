use Rattle.std.proofs.Common.{◌≡◌, ◌++◌, drop}
use Rattle.day_tables.specs.Values.{grouped_digits}
use Rattle.day_tables.proofs.values.append_grouped.Given as goal

abbrev pub invariant-loop-place : goal.invariant-loop-place
invariant-loop-place l = l.out.items ++ grouped_digits (drop l.place l.digits) ≡ l.fn.out.items ++ grouped_digits l.digits
