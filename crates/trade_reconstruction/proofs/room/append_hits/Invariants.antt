use Rattle.std.proofs.Common.{◌≡◌, ◌++◌, take}
use Rattle.std.specs.List.{flat_map}
use Rattle.trade_reconstruction.specs.Lines.{hit_word}
use Rattle.trade_reconstruction.proofs.room.append_hits.Given as goal

abbrev pub invariant-loop-word : goal.invariant-loop-word
invariant-loop-word l = l.text.items ≡ l.fn.text.items ++ flat_map (hit_word l.rows l.participants l.asked) (take l.word-index l.words)
