use Rattle.std.specs.List.{flat_map}
use Rattle.page_text.specs.Parts.{with_parts}
use Rattle.day_sections.proofs.Walks.{goes_on, goes_out}
use Rattle.request_sections.specs.Refused.{refused_parts}
use Rattle.request_sections.proofs.refused.add_each_refused.Goals as goal

pub loop-event-preserved : goal.loop-event-preserved
loop-event-preserved c =
    let f = refused_parts c.args.participants.now c.args.dated c.args.linked in
    goes_on f c.args.events.now c.loop-event.event-index c.event-item.result c.loop-event.page c.add_refused.new.page (with_parts c.args.page.now (flat_map f c.args.events.now))
    c.loop-event-test.true c.event-item.is c.in_ok-add_refused.ensures c.loop-event.invariant

pub returns : goal.returns
returns c =
    let f = refused_parts c.args.participants.now c.args.dated c.args.linked in
    goes_out f c.args.events.now c.loop-event.event-index c.loop-event.page (with_parts c.args.page.now (flat_map f c.args.events.now)) c.loop-event-test.false c.loop-event.invariant
