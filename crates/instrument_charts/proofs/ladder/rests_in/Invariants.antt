use Rattle.std.proofs.Common.{◌≡◌, ◌++◌, drop, filter}
use Rattle.instrument_charts.specs.Ladders.{is_at}
use Rattle.instrument_charts.proofs.ladder.rests_in.Given as goal

-- those that were kept, and then those of the others, are all
abbrev pub invariant-loop-rest : goal.invariant-loop-rest
invariant-loop-rest l = l.kept.items ++ filter (is_at l.instrument l.side) (drop l.rest-index l.rests) ≡ filter (is_at l.instrument l.side) l.rests
