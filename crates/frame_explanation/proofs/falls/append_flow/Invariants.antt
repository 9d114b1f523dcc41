use Rattle.std.proofs.Common.{◌≡◌, ◌++◌, drop, None}
use Rattle.frame_explanation.specs.Falls.{falls_from}
use Rattle.frame_explanation.proofs.falls.append_flow.Given as goal

abbrev pub invariant-loop-one : goal.invariant-loop-one
invariant-loop-one l = l.out.items ++ falls_from l.names l.flow.direction l.flow.who l.last (drop l.one-index l.heard) ≡ l.fn.out.items ++ falls_from l.names l.flow.direction l.flow.who None l.heard
