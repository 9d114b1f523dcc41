use Rattle.std.proofs.Common.{◌≡◌, drop}
use Rattle.fix_validation.specs.Positions.{places}
use Rattle.fix_validation.specs.GroupFaults.{miscounted}
use Rattle.fix_validation.proofs.group_faults.miscounted.Given as goal

abbrev pub invariant-loop-one : goal.invariant-loop-one
invariant-loop-one l = miscounted l.rows (places l.located) (places l.located) ≡ miscounted l.rows (places l.located) (places (drop l.one-index l.located))
