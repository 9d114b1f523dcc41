use Rattle.std.specs.List.{flat_map}
use Rattle.page_text.specs.Parts.{with_parts}
use Rattle.request_sections.specs.Shown.{price_parts}
use Rattle.day_sections.proofs.Walks.{goes_on, goes_out}
use Rattle.request_sections.proofs.shown.add_each_price.Goals as goal

pub loop-price-preserved : goal.loop-price-preserved
loop-price-preserved c =
    goes_on (price_parts c.args.tick) c.args.prices.now c.loop-price.price-index c.price-item.result c.loop-price.page c.add_price.new.page (with_parts c.args.page.now (flat_map (price_parts c.args.tick) c.args.prices.now))
    c.loop-price-test.true c.price-item.is c.in_ok-add_price.ensures c.loop-price.invariant

pub returns : goal.returns
returns c = goes_out (price_parts c.args.tick) c.args.prices.now c.loop-price.price-index c.loop-price.page (with_parts c.args.page.now (flat_map (price_parts c.args.tick) c.args.prices.now)) c.loop-price-test.false c.loop-price.invariant
