use Rattle.std.proofs.Common.{◌≡◌, ◌++◌}
use Rattle.desk_log.proofs.once.listed.Given as goal

abbrev pub invariant-loop-place : goal.invariant-loop-place
invariant-loop-place l = l.once.items ++ l.place-iterator ≡ l.kept.entries
