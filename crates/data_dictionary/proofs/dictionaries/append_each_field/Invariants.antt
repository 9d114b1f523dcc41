use Rattle.std.proofs.Common.{◌≡◌, ◌++◌, take}
use Rattle.std.specs.List.{flat_map}
use Rattle.data_dictionary.specs.Dictionaries.{field_text}
use Rattle.data_dictionary.proofs.dictionaries.append_each_field.Given as goal

abbrev pub invariant-loop-tag : goal.invariant-loop-tag
invariant-loop-tag l = l.text.items ≡ l.fn.text.items ++ flat_map field_text (take l.tag-index l.tags)
