use Rattle.std.proofs.Common.{◌≡◌, drop}
use Rattle.fix_fields.specs.Views.{entries}
use Rattle.fix_validation.specs.Faults.{missing}
use Rattle.fix_validation.proofs.faults.missing.Given as goal

abbrev pub invariant-loop-row : goal.invariant-loop-row
invariant-loop-row l = missing l.rows (entries l.fields) ≡ missing (drop l.row-index l.rows) (entries l.fields)
