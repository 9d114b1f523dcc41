use Rattle.std.proofs.Common.{◌≡◌, ◌++◌}
use Rattle.desk_log.specs.Missing.{gaps_from, gaps_in}
use Rattle.desk_log.proofs.missing.append_gaps_from.Given as goal

abbrev pub invariant-gaps : goal.invariant-gaps
invariant-gaps l = l.found.items ++ gaps_in l.frames l.later l.left l.place ≡ l.fn.found.items ++ gaps_from l.frames l.later l.fn.from

abbrev pub decreases-gaps : goal.decreases-gaps
decreases-gaps l = l.left
