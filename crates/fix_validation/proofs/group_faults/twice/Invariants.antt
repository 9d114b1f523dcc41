use Rattle.std.proofs.Common.{◌≡◌, [], drop, take}
use Rattle.fix_validation.specs.Positions.{places}
use Rattle.fix_validation.specs.GroupFaults.{twice}
use Rattle.fix_validation.proofs.group_faults.twice.Given as goal

abbrev pub invariant-loop-index : goal.invariant-loop-index
invariant-loop-index l = twice [] (places l.located) ≡ twice (places (take l.index l.located)) (places (drop l.index l.located))
