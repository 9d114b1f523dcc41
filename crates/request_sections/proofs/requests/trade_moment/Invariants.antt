use Rattle.std.proofs.Common.{◌≡◌, drop}
use Rattle.request_sections.specs.Requests.{trade_moment}
use Rattle.request_sections.proofs.requests.trade_moment.Given as goal

-- none so far
abbrev pub invariant-loop-event : goal.invariant-loop-event
invariant-loop-event l = trade_moment l.room (drop l.event-index l.events) ≡ trade_moment l.room l.events
