use Rattle.std.proofs.Common.{◌≡◌, ◌++◌, take}
use Rattle.std.specs.List.{flat_map}
use Rattle.surveillance.specs.Alarms.{event_alarms}
use Rattle.surveillance.specs.Kept.{kept_in}
use Rattle.surveillance.specs.Numbers.{held}
use Rattle.surveillance.proofs.alarms.push_events_alarms.Given as goal

-- those of what was looked at so far
abbrev pub invariant-loop-event : goal.invariant-loop-event
invariant-loop-event l = l.alarms.items ≡ l.fn.alarms.items ++ flat_map (event_alarms l.bounds (held l.compared.entries.now) (kept_in l.compared.prices.now.rows.entries l.compared.prices.now.bests.entries)) (take l.event-index l.events)
