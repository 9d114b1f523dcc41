use Rattle.std.proofs.Common.{◌≡◌, drop}
use Rattle.fix_validation.specs.Positions.{places}
use Rattle.fix_validation.specs.GroupFaults.{missing_in}
use Rattle.fix_validation.proofs.group_faults.missing_in.Given as goal

abbrev pub invariant-loop-row : goal.invariant-loop-row
invariant-loop-row l = missing_in l.rows l.some (places l.located) ≡ missing_in l.rows (drop l.row-index l.some) (places l.located)
