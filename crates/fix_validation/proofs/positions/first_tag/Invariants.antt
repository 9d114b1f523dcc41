use Rattle.std.proofs.Common.{◌≡◌, drop}
use Rattle.fix_validation.specs.Positions.{first_tag}
use Rattle.fix_validation.proofs.positions.first_tag.Given as goal

abbrev pub invariant-loop-row : goal.invariant-loop-row
invariant-loop-row l = first_tag l.group l.rows ≡ first_tag l.group (drop l.row-index l.rows)
