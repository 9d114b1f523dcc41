use Rattle.std.proofs.Common.{◌≡◌, ◌++◌, take}
use Rattle.std.specs.List.{flat_map}
use Rattle.data_dictionary.specs.Dictionaries.{message_text}
use Rattle.data_dictionary.specs.MessageTypes.{seen}
use Rattle.data_dictionary.proofs.dictionaries.append_each_message.Given as goal

abbrev pub invariant-loop-kind : goal.invariant-loop-kind
invariant-loop-kind l = l.text.items ≡ l.fn.text.items ++ flat_map (λ kind. message_text l.category (seen kind)) (take l.kind-index l.kinds)
