use Rattle.std.proofs.Common.{◌≡◌, ◌++◌, take}
use Rattle.std.specs.List.{flat_map}
use Rattle.desk_log.specs.Listing.{absent_line}
use Rattle.desk_log.proofs.listing.append_absents.Given as goal

abbrev pub invariant-loop-at : goal.invariant-loop-at
invariant-loop-at l = l.out.items ≡ l.fn.out.items ++ flat_map (absent_line l.log l.owed l.left) (take l.at-index l.places)
