use Rattle.std.specs.List.{flat_map}
use Rattle.page_text.specs.Parts.{with_parts}
use Rattle.request_sections.specs.Requests.{if_request_parts, sheet_of}
use Rattle.day_sections.proofs.Walks.{goes_on, goes_out}
use Rattle.request_sections.proofs.requests.add_each.Goals as goal

pub loop-event-preserved : goal.loop-event-preserved
loop-event-preserved c =
    goes_on (λ e. if_request_parts c.args.participants.now (sheet_of c.args.day.now) e e.what) c.args.rooms.now c.loop-event.event-index c.event-item.result c.loop-event.page c.add_if_request.new.page (with_parts c.args.page.now (flat_map (λ e. if_request_parts c.args.participants.now (sheet_of c.args.day.now) e e.what) c.args.rooms.now))
    c.loop-event-test.true c.event-item.is c.in_ok-add_if_request.ensures c.loop-event.invariant

pub returns : goal.returns
returns c = goes_out (λ e. if_request_parts c.args.participants.now (sheet_of c.args.day.now) e e.what) c.args.rooms.now c.loop-event.event-index c.loop-event.page (with_parts c.args.page.now (flat_map (λ e. if_request_parts c.args.participants.now (sheet_of c.args.day.now) e e.what) c.args.rooms.now)) c.loop-event-test.false c.loop-event.invariant
