use Rattle.std.proofs.Common.{◌≡◌, map, take}
use Rattle.participants.specs.Reading.{places}
use Rattle.participants.proofs.reading.places_of.Given as goal

abbrev pub invariant-loop-pair : goal.invariant-loop-pair
invariant-loop-pair l = l.found.items ≡ map (places l.names) (take l.pair-index l.pairs)
