use Rattle.std.proofs.Common.{◌≡◌, ◌++◌, take}
use Rattle.std.specs.List.{flat_map}
use Rattle.trade_reconstruction.specs.Lines.{standing_line}
use Rattle.trade_reconstruction.proofs.rested.append_standing.Given as goal

abbrev pub invariant-loop-word : goal.invariant-loop-word
invariant-loop-word l = l.text.items ≡ l.fn.text.items ++ flat_map (standing_line l.words) (take l.word-index l.stood)
