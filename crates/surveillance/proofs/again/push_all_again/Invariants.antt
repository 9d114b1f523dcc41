use Rattle.std.proofs.Common.{◌≡◌, ◌++◌, drop}
use Rattle.surveillance.specs.Again.{again_alarms, again_from}
use Rattle.surveillance.proofs.again.push_all_again.Given as goal

-- the alarms so far, and then those of the other events, are all
abbrev pub invariant-loop-event : goal.invariant-loop-event
invariant-loop-event l = l.alarms.items ++ again_from l.refused.items (drop l.event-index l.events) ≡ l.fn.alarms.items ++ again_alarms l.events
