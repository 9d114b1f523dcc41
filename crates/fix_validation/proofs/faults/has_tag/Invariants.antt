use Rattle.std.proofs.Common.{◌≡◌, drop}
use Rattle.fix_fields.specs.Views.{entries}
use Rattle.fix_validation.specs.Faults.{has_tag}
use Rattle.fix_validation.proofs.faults.has_tag.Given as goal

abbrev pub invariant-loop-field : goal.invariant-loop-field
invariant-loop-field l = has_tag l.tag (entries l.fields) ≡ has_tag l.tag (entries (drop l.field-index l.fields))
