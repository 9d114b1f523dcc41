use Rattle.std.proofs.Common.{◌≡◌, ◌++◌, drop, map}
use Rattle.frame_explanation.specs.Listing.{items, items_from, seen, state}
use Rattle.frame_explanation.proofs.listing.list_log.Given as goal

abbrev pub invariant-loop-one : goal.invariant-loop-one
invariant-loop-one l = map seen l.listed.items ++ items_from l.participants l.log (state l.stand) l.number (drop l.one-index l.found) ≡ items l.participants l.log l.found
