use Rattle.std.proofs.Common.{◌≡◌, ◌+◌, ◌≤◌, drop, cond}
use Rattle.std.specs.List.{sum_by}
use Rattle.day_events.specs.declared.event.Event.{Event}
use Rattle.request_sections.specs.Requests.{has_trade}
use Rattle.request_sections.proofs.section.count_traded.Given as goal

-- those so far, and then those of the others, are all
abbrev pub invariant-loop-room : goal.invariant-loop-room
invariant-loop-room l = (l.count + sum_by (λ (e : Event). cond (has_trade l.day.events.now e.what) 1 0) (drop l.room-index l.rooms) ≡ sum_by (λ (e : Event). cond (has_trade l.day.events.now e.what) 1 0) l.rooms) × (l.count ≤ l.room-index)
