use Rattle.std.proofs.Common.{◌≡◌, ◌<◌, length, take}
use Rattle.request_sections.specs.Keys.{AreFiled}
use Rattle.request_sections.proofs.filed.filed.Given as goal

-- the events so far are filed
abbrev pub invariant-loop-event : goal.invariant-loop-event
invariant-loop-event l = (0 < length l.buckets.items) × AreFiled l.by (take l.event-index l.events) l.buckets.items
