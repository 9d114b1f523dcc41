use Rattle.std.proofs.Common.{◌≡◌, ◌≤◌, ◌-◌, length}
use Rattle.desk_log.specs.Frames.{bodies_in, first_broken, outside}
use Rattle.desk_log.specs.Scan.{bodies_with, broken_with, outside_with}
use Rattle.desk_log.proofs.scanning.scan_log.Given as goal

abbrev pub invariant-loop-at : goal.invariant-loop-at
invariant-loop-at l = record {
  bodies : bodies_with l.scan.bodies.items l.at l.log ≡ bodies_in l.log;
  outside : outside_with l.scan.outside l.at l.log ≡ outside l.log;
  broken : broken_with l.scan.broken l.at l.log ≡ first_broken l.log;
  few : l.scan.outside ≤ l.at;
}

abbrev pub decreases-loop-at : goal.decreases-loop-at
decreases-loop-at l = length l.log - l.at
