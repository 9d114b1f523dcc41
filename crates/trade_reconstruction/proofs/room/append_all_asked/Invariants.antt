use Rattle.std.proofs.Common.{◌≡◌, ◌++◌, take}
use Rattle.std.specs.List.{flat_map}
use Rattle.trade_reconstruction.specs.Lines.{asked_word}
use Rattle.trade_reconstruction.proofs.room.append_all_asked.Given as goal

abbrev pub invariant-loop-word : goal.invariant-loop-word
invariant-loop-word l = l.text.items ≡ l.fn.text.items ++ flat_map (asked_word l.participants l.words l.asked) (take l.word-index l.words)
