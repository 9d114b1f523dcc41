use Rattle.std.proofs.Common.{◌≡◌, take}
use Rattle.trade_reconstruction.specs.QuoteNotes.{end_of, newest}
use Rattle.trade_reconstruction.proofs.noting.newest_end.Given as goal

abbrev pub invariant-loop-at : goal.invariant-loop-at
invariant-loop-at l = newest (end_of l.asked l.quote) (take l.at l.ended) ≡ newest (end_of l.asked l.quote) l.ended
