use Rattle.std.specs.List.{flat_map}
use Rattle.page_text.specs.Parts.{with_parts}
use Rattle.recipient_sections.specs.Asked.{name_parts}
use Rattle.day_sections.proofs.Walks.{goes_on, goes_out}
use Rattle.recipient_sections.proofs.asked.add_names.Goals as goal

pub loop-event-preserved : goal.loop-event-preserved
loop-event-preserved c =
    goes_on (name_parts c.args.participants.now) c.args.asked.now c.loop-event.event-index c.event-item.result c.loop-event.page c.add_name.new.page (with_parts c.args.page.now (flat_map (name_parts c.args.participants.now) c.args.asked.now))
    c.loop-event-test.true c.event-item.is c.in_ok-add_name.ensures c.loop-event.invariant

pub returns : goal.returns
returns c = goes_out (name_parts c.args.participants.now) c.args.asked.now c.loop-event.event-index c.loop-event.page (with_parts c.args.page.now (flat_map (name_parts c.args.participants.now) c.args.asked.now)) c.loop-event-test.false c.loop-event.invariant
