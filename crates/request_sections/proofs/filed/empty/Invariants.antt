use Rattle.std.proofs.Common.{◌≡◌, ◌<◌, List, [], All, length}
use Rattle.day_events.specs.declared.event.Event.{Event}
use Rattle.request_sections.proofs.filed.empty.Given as goal

abbrev pub invariant-loop : goal.invariant-loop
invariant-loop l = (0 < length l.buckets.items) × All (λ (kept : List Event). kept ≡ []) l.buckets.items
