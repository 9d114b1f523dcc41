use Rattle.std.proofs.Common.{◌≡◌, drop}
use Rattle.surveillance.specs.Index.{entries, entries_from}
use Rattle.surveillance.specs.Numbers.{held}
use Rattle.surveillance.proofs.index.entries.Given as goal

-- the maps so far, and then the other events, are all
abbrev pub invariant-loop-event : goal.invariant-loop-event
invariant-loop-event l = entries_from (held l.places) l.links.entries (drop l.event-index l.events) ≡ entries l.events
