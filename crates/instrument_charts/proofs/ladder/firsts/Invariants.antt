use Rattle.std.proofs.Common.{◌≡◌, ◌++◌, drop}
use Rattle.std.specs.Prelude.{None}
use Rattle.instrument_charts.specs.Ladders.{firsts}
use Rattle.instrument_charts.proofs.ladder.firsts.Given as goal

-- those that were kept, and then those of the others, are all
abbrev pub invariant-loop-rest : goal.invariant-loop-rest
invariant-loop-rest l = l.kept.items ++ firsts l.before (drop l.rest-index l.rests) ≡ firsts None l.rests
