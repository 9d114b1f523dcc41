use Rattle.std.proofs.Common.{◌≡◌, ◌++◌, take}
use Rattle.std.specs.List.{flat_map}
use Rattle.fix_fields.specs.Views.{entries}
use Rattle.frame_explanation.specs.Bodies.{field_line}
use Rattle.frame_explanation.proofs.bodies.append_fields.Given as goal

abbrev pub invariant-loop-field : goal.invariant-loop-field
invariant-loop-field l = l.out.items ≡ l.fn.out.items ++ flat_map field_line (entries (take l.field-index l.fields))
