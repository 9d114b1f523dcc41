use Rattle.std.specs.List.{flat_map}
use Rattle.page_text.specs.Parts.{with_parts}
use Rattle.alarm_sections.specs.Linked.{linked_parts}
use Rattle.day_sections.proofs.Walks.{goes_on, goes_out}
use Rattle.alarm_sections.proofs.linked.add_each.Goals as goal

pub loop-trade-preserved : goal.loop-trade-preserved
loop-trade-preserved c =
    goes_on (linked_parts c.args.lines.now.participants.now c.args.lines.now.shown c.args.lines.now.dated) c.args.trades.now c.loop-trade.trade-index c.trade-item.result c.loop-trade.page c.add_one.new.page (with_parts c.args.page.now (flat_map (linked_parts c.args.lines.now.participants.now c.args.lines.now.shown c.args.lines.now.dated) c.args.trades.now))
    c.loop-trade-test.true c.trade-item.is c.in_ok-add_one.ensures c.loop-trade.invariant

pub returns : goal.returns
returns c = goes_out (linked_parts c.args.lines.now.participants.now c.args.lines.now.shown c.args.lines.now.dated) c.args.trades.now c.loop-trade.trade-index c.loop-trade.page (with_parts c.args.page.now (flat_map (linked_parts c.args.lines.now.participants.now c.args.lines.now.shown c.args.lines.now.dated) c.args.trades.now)) c.loop-trade-test.false c.loop-trade.invariant
