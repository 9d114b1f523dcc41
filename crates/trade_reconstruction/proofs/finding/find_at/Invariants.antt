use Rattle.std.proofs.Common.{◌≡◌, drop, find}
use Rattle.std.specs.List.{flat_map}
use Rattle.trade_reconstruction.specs.Indexed.{at}
use Rattle.trade_reconstruction.specs.Lines.{is_sought}
use Rattle.trade_reconstruction.proofs.finding.find_at.Given as goal

abbrev pub invariant-loop-place : goal.invariant-loop-place
invariant-loop-place l = find (is_sought l.sought) (flat_map (at l.words) (drop l.place-index l.places)) ≡ find (is_sought l.sought) (flat_map (at l.words) l.places)
