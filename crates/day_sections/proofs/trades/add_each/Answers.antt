use Rattle.std.specs.List.{flat_map}
use Rattle.page_text.specs.Parts.{with_parts}
use Rattle.day_sections.specs.Trades.{sheet_of, trade_parts}
use Rattle.day_sections.proofs.Walks.{goes_on, goes_out}
use Rattle.day_sections.proofs.trades.add_each.Goals as goal

pub loop-trade-preserved : goal.loop-trade-preserved
loop-trade-preserved c =
    goes_on (trade_parts (sheet_of c.args.reported.now)) c.args.trades.now c.loop-trade.trade-index c.trade-item.result c.loop-trade.page c.add_trade.new.page (with_parts c.args.page.now (flat_map (trade_parts (sheet_of c.args.reported.now)) c.args.trades.now))
    c.loop-trade-test.true c.trade-item.is c.in_ok-add_trade.ensures c.loop-trade.invariant

pub returns : goal.returns
returns c = goes_out (trade_parts (sheet_of c.args.reported.now)) c.args.trades.now c.loop-trade.trade-index c.loop-trade.page (with_parts c.args.page.now (flat_map (trade_parts (sheet_of c.args.reported.now)) c.args.trades.now)) c.loop-trade-test.false c.loop-trade.invariant
