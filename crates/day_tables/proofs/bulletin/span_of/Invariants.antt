use Rattle.std.proofs.Common.{◌≡◌, drop}
use Rattle.day_tables.specs.Bulletin.{span_of}
use Rattle.day_tables.proofs.bulletin.span_of.Given as goal

abbrev pub invariant-loop-at : goal.invariant-loop-at
invariant-loop-at l = l.span ≡ span_of l.instrument (drop l.at l.trades)
