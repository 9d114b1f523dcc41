use Rattle.std.proofs.Common.{◌≡◌, drop}
use Rattle.fix_validation.specs.Faults.{form_of}
use Rattle.fix_validation.proofs.faults.form_of.Given as goal

abbrev pub invariant-loop-row : goal.invariant-loop-row
invariant-loop-row l = form_of l.tag l.rows ≡ form_of l.tag (drop l.row-index l.rows)
