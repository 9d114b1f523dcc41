use Rattle.std.proofs.Common.{◌≡◌, ◌++◌, drop, map}
use Rattle.instrument_charts.specs.Rests.{rest_of}
use Rattle.instrument_charts.proofs.rests.push_book.Given as goal

-- those that were added, and then the others, are all
abbrev pub invariant-loop-entry : goal.invariant-loop-entry
invariant-loop-entry l = l.rests.items ++ map (rest_of l.instrument) (drop l.entry-index l.entries) ≡ l.fn.rests.items ++ map (rest_of l.instrument) l.entries
