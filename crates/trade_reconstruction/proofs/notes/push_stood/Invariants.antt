use Rattle.std.proofs.Common.{◌≡◌, ◌++◌, take}
use Rattle.trade_reconstruction.proofs.notes.push_stood.Given as goal

abbrev pub invariant-loop-word : goal.invariant-loop-word
invariant-loop-word l = l.stood.items ≡ l.fn.stood.items ++ take l.word-index l.words
