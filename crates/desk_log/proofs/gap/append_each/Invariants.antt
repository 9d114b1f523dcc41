use Rattle.std.proofs.Common.{◌≡◌, ◌++◌, drop}
use Rattle.desk_log.specs.Report.{missing_lines}
use Rattle.desk_log.proofs.gap.append_each.Given as goal

abbrev pub invariant-loop-gap : goal.invariant-loop-gap
invariant-loop-gap l = l.out.items ++ missing_lines l.known (drop l.gap-index l.gaps) l.rest ≡ l.fn.out.items ++ missing_lines l.known l.gaps l.owed
