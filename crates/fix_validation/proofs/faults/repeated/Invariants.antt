use Rattle.std.proofs.Common.{◌≡◌, ◌++◌, [], drop, take}
use Rattle.fix_fields.specs.Views.{entries}
use Rattle.fix_validation.specs.Faults.{repeated}
use Rattle.fix_validation.proofs.faults.repeated.Given as goal

abbrev pub invariant-loop-place : goal.invariant-loop-place
invariant-loop-place l = repeated (l.header ++ l.rows) [] (entries l.fields)
    ≡ repeated (l.header ++ l.rows) (entries (take l.place l.fields)) (entries (drop l.place l.fields))
