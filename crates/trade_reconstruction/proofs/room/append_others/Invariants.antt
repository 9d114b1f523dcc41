use Rattle.std.proofs.Common.{◌≡◌, ◌++◌, take}
use Rattle.trade_reconstruction.specs.Lines.{others}
use Rattle.trade_reconstruction.proofs.room.append_others.Given as goal

abbrev pub invariant-loop-word : goal.invariant-loop-word
invariant-loop-word l = l.text.items ≡ l.fn.text.items ++ others l.participants (take l.word-index l.words) l.room l.who l.row
