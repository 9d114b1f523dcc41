use Rattle.std.proofs.Common.{◌≡◌, filter, take}
use Rattle.surveillance.specs.Deeds.{was_asked}
use Rattle.surveillance.proofs.deeds.recipients.Given as goal

-- those of what was looked at so far
abbrev pub invariant-loop-who : goal.invariant-loop-who
invariant-loop-who l = l.asked_of.items ≡ filter (was_asked l.asked) (take l.who-index l.everybody)
