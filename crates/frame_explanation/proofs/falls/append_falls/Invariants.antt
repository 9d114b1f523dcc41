use Rattle.std.proofs.Common.{◌≡◌, ◌++◌}
use Rattle.frame_explanation.specs.Falls.{falls_below}
use Rattle.frame_explanation.proofs.falls.append_falls.Given as goal

abbrev pub invariant-loop-place : goal.invariant-loop-place
invariant-loop-place l = l.out.items ≡ l.fn.out.items ++ falls_below l.names l.heard l.place
