use Rattle.std.proofs.Common.{◌≡◌, ◌++◌, drop, filter}
use Rattle.day_events.specs.declared.event.Event.{Event}
use Rattle.day_sections.specs.Reports.{is_reporting}
use Rattle.day_sections.proofs.reports.reports_of.Given as goal

-- those that were kept, and then those of the others, are all
abbrev pub invariant-loop-event : goal.invariant-loop-event
invariant-loop-event l = l.kept.items ++ filter (λ (e : Event). is_reporting e.what) (drop l.event-index l.events) ≡ filter (λ (e : Event). is_reporting e.what) l.events
