use Rattle.std.proofs.Common.{◌≡◌, drop}
use Rattle.surveillance.specs.Index.{reports_from, reports}
use Rattle.surveillance.specs.Numbers.{held}
use Rattle.surveillance.proofs.index.reports.Given as goal

-- the map so far, and then the other events, are all
abbrev pub invariant-loop-event : goal.invariant-loop-event
invariant-loop-event l = reports_from (held l.places) (drop l.event-index l.events) ≡ reports l.events
