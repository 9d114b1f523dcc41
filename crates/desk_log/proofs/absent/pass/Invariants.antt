use Rattle.std.proofs.Common.{◌≡◌, ◌++◌, false, replicate}
use Rattle.desk_log.proofs.absent.pass.Given as goal

abbrev pub invariant-loop-k : goal.invariant-loop-k
invariant-loop-k l = l.found.items ≡ l.fn.found.items ++ replicate l.k false
