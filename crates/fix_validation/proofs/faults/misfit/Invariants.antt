use Rattle.std.proofs.Common.{◌≡◌, ◌++◌, drop, None}
use Rattle.fix_fields.specs.Views.{entries}
use Rattle.fix_fields.specs.declared.value.ValueFault.TheVariants as value
use Rattle.fix_validation.specs.declared.faults.DictFault.TheVariants.{Format, Range}
use Rattle.fix_validation.specs.Faults.{faulty, misfit, or_else}
use Rattle.fix_validation.proofs.RowLemmas.{or_fault}
use Rattle.fix_validation.proofs.faults.misfit.Given as goal

abbrev pub invariant-loop-field : goal.invariant-loop-field
invariant-loop-field l = misfit (l.header ++ l.rows) (entries l.fields)
    ≡ or_else Format (faulty value.Format (l.header ++ l.rows) (entries (drop l.field-index l.fields)))
    (or_fault l.outside (or_else Range (faulty value.Range (l.header ++ l.rows) (entries (drop l.field-index l.fields))) None))
