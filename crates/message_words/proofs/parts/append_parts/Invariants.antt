use Rattle.std.proofs.Common.{◌≡◌, ◌++◌, take}
use Rattle.message_words.specs.Parts.{lent_text}
use Rattle.message_words.proofs.parts.append_parts.Given as goal

abbrev pub invariant-loop-part : goal.invariant-loop-part
invariant-loop-part l = l.text.items ≡ l.fn.text.items ++ lent_text (take l.part-index l.parts)
