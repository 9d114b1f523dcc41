use Rattle.std.proofs.Common.{◌≡◌, drop}
use Rattle.price_book.specs.Live.{entering}
use Rattle.price_book.proofs.filling.entering.Given as goal

abbrev pub invariant-loop-at : goal.invariant-loop-at
invariant-loop-at l = entering (drop l.at l.facts) ≡ entering l.facts
