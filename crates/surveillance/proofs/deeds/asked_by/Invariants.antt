use Rattle.std.proofs.Common.{◌≡◌, filter, take}
use Rattle.surveillance.specs.Deeds.{is_deed}
use Rattle.surveillance.specs.declared.deeds.Act.TheVariants as act
use Rattle.surveillance.proofs.deeds.asked_by.Given as goal

-- those of what was looked at so far
abbrev pub invariant-loop-deed : goal.invariant-loop-deed
invariant-loop-deed l = l.asked.items ≡ filter (is_deed act.Asked l.who) (take l.deed-index l.deeds)
