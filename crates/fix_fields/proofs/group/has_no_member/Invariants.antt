use Rattle.std.proofs.Common.{◌≡◌, drop}
use Rattle.fix_fields.specs.Groups.{is_member}
use Rattle.fix_fields.specs.GroupParts.{has_no}
use Rattle.fix_fields.specs.Views.{entries}
use Rattle.fix_fields.proofs.group.has_no_member.Given as goal

abbrev pub invariant-loop-field : goal.invariant-loop-field
invariant-loop-field l = has_no (is_member l.group) (entries l.fields) ≡ has_no (is_member l.group) (entries (drop l.field-index l.fields))
