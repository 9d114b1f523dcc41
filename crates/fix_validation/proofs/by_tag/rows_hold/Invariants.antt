use Rattle.std.proofs.Common.{◌≡◌, drop}
use Rattle.fix_fields.specs.Views.{entries}
use Rattle.fix_validation.specs.ByTag.{rows_hold}
use Rattle.fix_validation.proofs.by_tag.rows_hold.Given as goal

abbrev pub invariant-loop-row : goal.invariant-loop-row
invariant-loop-row l = rows_hold l.rows (entries l.fields) ≡ rows_hold (drop l.row-index l.rows) (entries l.fields)
