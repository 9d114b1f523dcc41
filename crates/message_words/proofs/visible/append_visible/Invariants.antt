use Rattle.std.proofs.Common.{◌≡◌, ◌++◌, take}
use Rattle.message_words.specs.Visible.{visible}
use Rattle.message_words.proofs.visible.append_visible.Given as goal

abbrev pub invariant-loop-byte : goal.invariant-loop-byte
invariant-loop-byte l = l.out.items ≡ l.fn.out.items ++ visible (take l.byte-index l.text)
