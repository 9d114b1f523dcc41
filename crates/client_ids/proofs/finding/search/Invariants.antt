use Rattle.std.proofs.Common.{◌-◌, ◌≡◌}
use Rattle.client_ids.proofs.Searching.{Looking}
use Rattle.client_ids.proofs.finding.search.Given as goal

abbrev pub invariant-loop-low : goal.invariant-loop-low
invariant-loop-low g l =
    (g.P.Probe.size l.probe ≡ g.P.Probe.size l.fn.probe) × (g.P.Probe.answer l.probe ≡ g.P.Probe.answer l.fn.probe) × Looking (g.P.Probe.answer l.fn.probe l.who l.id) (g.P.Probe.size l.fn.probe) l.low l.high l.found (g.P.Probe.count l.fn.probe) (g.P.Probe.count l.probe)

abbrev pub decreases-loop-low : goal.decreases-loop-low
decreases-loop-low g l = l.high - l.low
