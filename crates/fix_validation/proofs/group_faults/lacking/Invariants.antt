use Rattle.std.proofs.Common.{◌≡◌, drop}
use Rattle.fix_validation.specs.Positions.{places}
use Rattle.fix_validation.specs.GroupFaults.{lacking}
use Rattle.fix_validation.proofs.group_faults.lacking.Given as goal

abbrev pub invariant-loop-index : goal.invariant-loop-index
invariant-loop-index l = lacking l.first l.tag (places l.located) ≡ lacking l.first l.tag (places (drop l.index l.located))
