use Rattle.std.proofs.Common.{◌≡◌, map, take}
use Rattle.toml.specs.View.{view}
use Rattle.participants.specs.Reading.{named}
use Rattle.participants.proofs.reading.pairs_in.Given as goal

abbrev pub invariant-loop-entry : goal.invariant-loop-entry
invariant-loop-entry l = l.pairs.items ≡ map (λ entry. named (view entry)) (take l.entry-index l.list)
