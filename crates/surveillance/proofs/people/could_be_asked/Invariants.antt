use Rattle.std.proofs.Common.{◌≡◌, filter, take}
use Rattle.participants.specs.Relations.{apart}
use Rattle.surveillance.proofs.people.could_be_asked.Given as goal

-- those of what was looked at so far
abbrev pub invariant-loop-other : goal.invariant-loop-other
invariant-loop-other l = l.others.items ≡ filter (apart l.participants l.who) (take l.other-index l.everybody)
