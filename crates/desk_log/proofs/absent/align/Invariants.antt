use Rattle.std.proofs.Common.{◌≡◌, ◌++◌, drop}
use Rattle.desk_log.specs.Absent.{found_in, left_in, others, taken_in}
use Rattle.desk_log.specs.Numbered.{texts_in}
use Rattle.desk_log.proofs.absent.align.Given as goal

abbrev pub invariant-loop-message : goal.invariant-loop-message
invariant-loop-message l =
    (l.aligned.found.items ++ found_in (texts_in l.log (drop l.message-index l.once)) l.rest ≡ found_in (texts_in l.log l.once) l.owed)
    × (l.aligned.left.items ++ others (taken_in (texts_in l.log (drop l.message-index l.once)) l.rest) (drop l.message-index l.once) ≡ left_in l.log l.once l.owed)
