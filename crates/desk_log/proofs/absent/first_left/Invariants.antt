use Rattle.std.proofs.Common.{◌≡◌, drop}
use Rattle.desk_log.specs.Absent.{first_left}
use Rattle.desk_log.proofs.absent.first_left.Given as goal

abbrev pub invariant-loop-message : goal.invariant-loop-message
invariant-loop-message l = first_left l.log (drop l.message-index l.left) l.owed ≡ first_left l.log l.left l.owed
