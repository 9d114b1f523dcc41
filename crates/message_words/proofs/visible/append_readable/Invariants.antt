use Rattle.std.proofs.Common.{◌≡◌, ◌++◌, take}
use Rattle.message_words.specs.Visible.{readable}
use Rattle.message_words.proofs.visible.append_readable.Given as goal

abbrev pub invariant-loop-byte : goal.invariant-loop-byte
invariant-loop-byte l = l.out.items ≡ l.fn.out.items ++ readable (take l.byte-index l.text)
