use Rattle.std.proofs.Common.{◌≡◌, ◌≤◌, ◌+◌, ◌++◌, take}
use Rattle.cross_delay.specs.Used.{cross_names}
use Rattle.cross_delay.proofs.used.add_cross_names.Given as goal

abbrev pub invariant-loop-fact : goal.invariant-loop-fact
invariant-loop-fact l = (l.crosses.names ≡ l.fn.crosses.names ++ cross_names (take l.fact-index l.facts)) × (l.fn.crosses.headroom ≤ l.crosses.headroom + l.fact-index)
