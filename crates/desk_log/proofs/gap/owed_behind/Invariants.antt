use Rattle.std.proofs.Common.{◌≡◌, drop}
use Rattle.desk_log.specs.Report.{owed_behind}
use Rattle.desk_log.proofs.gap.owed_behind.Given as goal

abbrev pub invariant-loop-gap : goal.invariant-loop-gap
invariant-loop-gap l = owed_behind (drop l.gap-index l.gaps) l.behind ≡ owed_behind l.gaps l.rest
