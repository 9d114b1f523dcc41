use Rattle.std.proofs.Common.{◌≡◌, drop}
use Rattle.surveillance.specs.Again.{find_alike}
use Rattle.surveillance.proofs.again.find_alike.Given as goal

-- none so far is alike
abbrev pub invariant-loop-other : goal.invariant-loop-other
invariant-loop-other l = find_alike l.order (drop l.other-index l.refused) ≡ find_alike l.order l.refused
