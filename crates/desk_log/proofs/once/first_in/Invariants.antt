use Rattle.std.proofs.Common.{◌≡◌, take}
use Rattle.std.specs.BTreeMap as tree
use Rattle.desk_log.specs.declared.numbered.Place.{Place}
use Rattle.desk_log.specs.Once.{found_at, place_cmp}
use Rattle.desk_log.proofs.once.first_in.Given as goal

abbrev pub invariant-loop-message : goal.invariant-loop-message
invariant-loop-message l = (p : Place) → tree.get place_cmp l.kept p ≡ found_at p (take l.message-index l.logged)
