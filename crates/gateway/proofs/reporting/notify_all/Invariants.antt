use Rattle.std.proofs.Common.{◌≡◌}
use Rattle.gateway.proofs.reporting.notify_all.Given as goal

abbrev pub invariant-loop-notice : goal.invariant-loop-notice
invariant-loop-notice g l = g.G.Gate.passed l.gate ≡ g.G.Gate.passed l.fn.gate
