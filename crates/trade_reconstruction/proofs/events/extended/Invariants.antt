use Rattle.std.proofs.Common.{◌≡◌, ◌++◌, take}
use Rattle.trade_reconstruction.proofs.events.extended.Given as goal

abbrev pub invariant-loop-word : goal.invariant-loop-word
invariant-loop-word l = l.all ≡ l.fn.events ++ take l.word-index l.new
