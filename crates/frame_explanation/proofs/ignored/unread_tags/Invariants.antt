use Rattle.std.proofs.Common.{◌≡◌, [], drop}
use Rattle.fix_fields.specs.Views.{entries}
use Rattle.frame_explanation.specs.Ignored.{unread_from}
use Rattle.frame_explanation.proofs.ignored.unread_tags.Given as goal

abbrev pub invariant-loop-field : goal.invariant-loop-field
invariant-loop-field l = unread_from l.kind l.tags.items (entries (drop l.field-index l.fields)) ≡ unread_from l.kind [] (entries l.fields)
