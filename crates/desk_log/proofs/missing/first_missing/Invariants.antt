use Rattle.std.proofs.Common.{◌≡◌}
use Rattle.desk_log.specs.Missing.{first_missing}
use Rattle.desk_log.proofs.missing.first_missing.Given as goal

abbrev pub invariant-times : goal.invariant-times
invariant-times l = first_missing l.era l.frames l.left l.due ≡ first_missing l.era l.frames l.times l.n

abbrev pub decreases-times : goal.decreases-times
decreases-times l = l.left
