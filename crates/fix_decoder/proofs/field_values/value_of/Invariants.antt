use Rattle.std.proofs.Common.{◌≡◌, drop}
use Rattle.fix_fields.specs.Fields.{value_of}
use Rattle.fix_fields.specs.Views.{entries}
use Rattle.fix_decoder.proofs.field_values.value_of.Given as goal

abbrev pub invariant-loop-field : goal.invariant-loop-field
invariant-loop-field l = value_of l.tag (entries l.fields) ≡ value_of l.tag (entries (drop l.field-index l.fields))
