use Rattle.std.specs.List.{filter_map}
use Rattle.instrument_charts.specs.Deals.{deal_by}
use Rattle.instrument_charts.proofs.Walks.{makes_on, makes_out}
use Rattle.instrument_charts.proofs.deals.deals_of.Goals as goal

pub loop-trade-preserved : goal.loop-trade-preserved
loop-trade-preserved c =
    makes_on (deal_by c.args.reports.now) c.args.trades.now c.loop-trade.trade-index c.trade-item.result c.deal_by.result c.loop-trade.deals.items c.push_deal.new.deals.items (filter_map (deal_by c.args.reports.now) c.args.trades.now)
    c.loop-trade-test.true c.trade-item.is c.deal_by.ensures c.in_ok-push_deal.ensures c.loop-trade.invariant

pub returns : goal.returns
returns c = makes_out (deal_by c.args.reports.now) c.args.trades.now c.loop-trade.trade-index c.loop-trade.deals.items (filter_map (deal_by c.args.reports.now) c.args.trades.now) c.loop-trade-test.false c.loop-trade.invariant
