use Rattle.std.proofs.Common.{◌≡◌, ◌+◌, drop}
use Rattle.desk_log.specs.Comparing.{agreed}
use Rattle.desk_log.proofs.comparing.agreed.Given as goal

abbrev pub invariant-loop-count : goal.invariant-loop-count
invariant-loop-count l = l.count + agreed l.log (drop l.count l.once) (drop l.count l.owed) ≡ agreed l.log l.once l.owed
