use Rattle.std.proofs.Common.{◌≡◌, ◌++◌, take}
use Rattle.std.specs.List.{flat_map}
use Rattle.surveillance.specs.Alarms.{person_alarms}
use Rattle.surveillance.proofs.people.push_people.Given as goal

-- those of what was looked at so far
abbrev pub invariant-loop-who : goal.invariant-loop-who
invariant-loop-who l = l.alarms.items ≡ l.fn.alarms.items ++ flat_map (person_alarms l.bounds l.counted.participants.now l.counted.trades.now l.counted.deeds.now l.counted.everybody.now) (take l.who-index l.counted.everybody.now)
