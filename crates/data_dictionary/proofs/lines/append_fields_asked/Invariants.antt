use Rattle.std.proofs.Common.{◌≡◌, ◌++◌, take}
use Rattle.data_dictionary.specs.Dictionaries.{fields_asked}
use Rattle.data_dictionary.proofs.lines.append_fields_asked.Given as goal

abbrev pub invariant-loop-field : goal.invariant-loop-field
invariant-loop-field l = l.text.items ≡ l.fn.text.items ++ fields_asked (take l.field-index l.fields)
