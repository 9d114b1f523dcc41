use Rattle.std.proofs.Common.{◌≡◌, drop}
use Rattle.desk_log.specs.Once.{conflict_from}
use Rattle.desk_log.proofs.once.conflict_in.Given as goal

abbrev pub invariant-loop-message : goal.invariant-loop-message
invariant-loop-message l = conflict_from l.log l.logged (drop l.message-index l.logged) ≡ conflict_from l.log l.logged l.logged
