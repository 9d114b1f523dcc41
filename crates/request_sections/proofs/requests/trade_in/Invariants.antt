use Rattle.std.proofs.Common.{◌≡◌, drop}
use Rattle.request_sections.specs.Requests.{trade_in}
use Rattle.request_sections.proofs.requests.trade_in.Given as goal

abbrev pub invariant-loop-event : goal.invariant-loop-event
invariant-loop-event l = trade_in l.room (drop l.event-index l.events) ≡ trade_in l.room l.events
