use Rattle.page_text.specs.Parts.{with_parts}
use Rattle.day_tables.specs.Parts.{each_from}
use Rattle.chart_axes.specs.Ticks.{most_prices, price_parts}
use Rattle.day_tables.proofs.Walks.{counts_on, counts_out}
use Rattle.chart_axes.proofs.ticks.add_each_price.Goals as goal

pub loop-place-preserved : goal.loop-place-preserved
loop-place-preserved c =
    counts_on (price_parts c.args.scale.now c.args.step) c.loop-place.place most_prices c.loop-place.page c.add_price_at.new.page (with_parts c.args.page.now (each_from (price_parts c.args.scale.now c.args.step) 0 most_prices))
    c.loop-place-test.true c.in_ok-add_price_at.ensures c.loop-place.invariant

pub returns : goal.returns
returns c = counts_out (price_parts c.args.scale.now c.args.step) c.loop-place.place most_prices c.loop-place.page (with_parts c.args.page.now (each_from (price_parts c.args.scale.now c.args.step) 0 most_prices)) c.loop-place-test.false c.loop-place.invariant
