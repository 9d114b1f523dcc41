use Rattle.std.proofs.Common.{◌≡◌, drop}
use Rattle.fix_validation.specs.Positions.{group_of}
use Rattle.fix_validation.proofs.positions.group_of.Given as goal

abbrev pub invariant-loop-row : goal.invariant-loop-row
invariant-loop-row l = group_of l.tag l.rows ≡ group_of l.tag (drop l.row-index l.rows)
