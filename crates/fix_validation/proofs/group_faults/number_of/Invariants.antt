use Rattle.std.proofs.Common.{◌≡◌, ◌+◌, ◌≤◌, length, drop}
use Rattle.fix_validation.specs.Positions.{places, begins}
use Rattle.fix_validation.proofs.group_faults.number_of.Given as goal

abbrev pub invariant-loop-one : goal.invariant-loop-one
invariant-loop-one l = (l.number + length (begins l.first l.place (places (drop l.one-index l.located))) ≡ length (begins l.first l.place (places l.located))) × (l.number ≤ l.one-index)
