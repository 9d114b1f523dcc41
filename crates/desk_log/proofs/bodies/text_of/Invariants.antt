use Rattle.std.proofs.Common.{◌≡◌, ◌++◌, length}
use Rattle.desk_log.specs.Bodies.{text_of}
use Rattle.desk_log.proofs.bodies.text_of.Given as goal

abbrev pub invariant-loop-rest : goal.invariant-loop-rest
invariant-loop-rest l = l.text.items ++ text_of l.rest ≡ text_of l.body

abbrev pub decreases-loop-rest : goal.decreases-loop-rest
decreases-loop-rest l = length l.rest
