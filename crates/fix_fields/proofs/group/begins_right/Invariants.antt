use Rattle.std.proofs.Common.{◌≡◌, drop}
use Rattle.fix_fields.specs.Groups.{kept}
use Rattle.fix_fields.specs.Views.{entries}
use Rattle.fix_fields.proofs.group.begins_right.Given as goal

abbrev pub invariant-loop-field : goal.invariant-loop-field
invariant-loop-field l = kept l.group (entries l.fields) ≡ kept l.group (entries (drop l.field-index l.fields))
