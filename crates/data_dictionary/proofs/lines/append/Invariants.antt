use Rattle.std.proofs.Common.{◌≡◌, ◌++◌, take}
use Rattle.fix_fields.specs.Views.{joined}
use Rattle.data_dictionary.proofs.lines.append.Given as goal

abbrev pub invariant-loop-part : goal.invariant-loop-part
invariant-loop-part l = l.text.items ≡ l.fn.text.items ++ joined (take l.part-index l.parts)
