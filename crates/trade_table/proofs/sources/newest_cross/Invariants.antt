use Rattle.std.proofs.Common.{◌≡◌, take}
use Rattle.trade_table.specs.Sources.{cross_of, newest}
use Rattle.trade_table.proofs.sources.newest_cross.Given as goal

abbrev pub invariant-loop-at : goal.invariant-loop-at
invariant-loop-at l = newest (cross_of l.entering l.resting) (take l.at l.known) ≡ newest (cross_of l.entering l.resting) l.known
