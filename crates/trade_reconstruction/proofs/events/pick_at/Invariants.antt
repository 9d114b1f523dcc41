use Rattle.std.proofs.Common.{◌≡◌, take}
use Rattle.std.specs.List.{flat_map}
use Rattle.trade_reconstruction.specs.Indexed.{at}
use Rattle.trade_reconstruction.proofs.events.pick_at.Given as goal

abbrev pub invariant-loop-place : goal.invariant-loop-place
invariant-loop-place l = l.picked.items ≡ flat_map (at l.words) (take l.place-index l.places)
