use Rattle.std.specs.List.{flat_map}
use Rattle.page_text.specs.Parts.{with_parts}
use Rattle.request_sections.specs.Requests.{if_quote_parts, sheet_of}
use Rattle.day_sections.proofs.Walks.{goes_on, goes_out}
use Rattle.request_sections.proofs.requests.add_each_quote.Goals as goal

pub loop-event-preserved : goal.loop-event-preserved
loop-event-preserved c =
    goes_on (λ e. if_quote_parts c.args.participants.now (sheet_of c.args.day.now) c.args.said.now.tick c.args.axis.now c.args.said.now.events.now c.args.said.now.room e e.what) c.args.said.now.quotes.now c.loop-event.event-index c.event-item.result c.loop-event.page c.add_if_quote.new.page (with_parts c.args.page.now (flat_map (λ e. if_quote_parts c.args.participants.now (sheet_of c.args.day.now) c.args.said.now.tick c.args.axis.now c.args.said.now.events.now c.args.said.now.room e e.what) c.args.said.now.quotes.now))
    c.loop-event-test.true c.event-item.is c.in_ok-add_if_quote.ensures c.loop-event.invariant

pub returns : goal.returns
returns c = goes_out (λ e. if_quote_parts c.args.participants.now (sheet_of c.args.day.now) c.args.said.now.tick c.args.axis.now c.args.said.now.events.now c.args.said.now.room e e.what) c.args.said.now.quotes.now c.loop-event.event-index c.loop-event.page (with_parts c.args.page.now (flat_map (λ e. if_quote_parts c.args.participants.now (sheet_of c.args.day.now) c.args.said.now.tick c.args.axis.now c.args.said.now.events.now c.args.said.now.room e e.what) c.args.said.now.quotes.now)) c.loop-event-test.false c.loop-event.invariant
