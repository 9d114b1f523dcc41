use Rattle.std.proofs.Common.{filter}
use Rattle.instrument_charts.specs.Deals.{is_in}
use Rattle.instrument_charts.proofs.Walks.{picks_on, picks_out}
use Rattle.instrument_charts.proofs.deals.deals_in.Goals as goal

pub loop-deal-preserved : goal.loop-deal-preserved
loop-deal-preserved c =
    picks_on (is_in c.args.instrument) c.args.deals.now c.loop-deal.deal-index c.deal-item.result c.is_in.result c.loop-deal.kept.items c.keep.new.deals.items (filter (is_in c.args.instrument) c.args.deals.now)
    c.loop-deal-test.true c.deal-item.is c.is_in.ensures c.in_ok-keep.ensures c.loop-deal.invariant

pub returns : goal.returns
returns c = picks_out (is_in c.args.instrument) c.args.deals.now c.loop-deal.deal-index c.loop-deal.kept.items (filter (is_in c.args.instrument) c.args.deals.now) c.loop-deal-test.false c.loop-deal.invariant
