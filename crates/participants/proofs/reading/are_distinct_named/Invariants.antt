use Rattle.std.proofs.Common.{◌≡◌, drop}
use Rattle.participants.specs.Reading.{are_distinct_named}
use Rattle.participants.proofs.reading.are_distinct_named.Given as goal

abbrev pub invariant-loop-place : goal.invariant-loop-place
invariant-loop-place l = are_distinct_named l.pairs ≡ are_distinct_named (drop l.place l.pairs)
