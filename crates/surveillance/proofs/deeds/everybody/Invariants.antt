use Rattle.std.proofs.Common.{◌≡◌, ◌++◌, ◌-◌, length}
use Rattle.surveillance.specs.Deeds.{places_from}
use Rattle.surveillance.proofs.deeds.everybody.Given as goal

-- the places so far, and then the others, are all
abbrev pub invariant-loop-place : goal.invariant-loop-place
invariant-loop-place l = l.places.items ++ places_from l.place (length l.participants.names - l.place) ≡ places_from 0 (length l.participants.names)
