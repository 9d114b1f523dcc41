use Rattle.std.proofs.Common.{◌≡◌, ◌++◌, drop}
use Rattle.surveillance.specs.Again.{without}
use Rattle.surveillance.proofs.again.without.Given as goal

-- those kept, and then those of the others, are all
abbrev pub invariant-loop-other : goal.invariant-loop-other
invariant-loop-other l = l.rest.items ++ without l.order (drop l.other-index l.refused) ≡ without l.order l.refused
