use Rattle.std.proofs.Common.{◌≡◌, ◌++◌, drop}
use Rattle.fix_validation.specs.Positions.{begins, places}
use Rattle.fix_validation.proofs.positions.begins.Given as goal

abbrev pub invariant-loop-one : goal.invariant-loop-one
invariant-loop-one l = l.parts.items ++ begins l.first l.around (places (drop l.one-index l.located)) ≡ begins l.first l.around (places l.located)
