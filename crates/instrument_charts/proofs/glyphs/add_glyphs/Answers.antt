use Rattle.std.specs.List.{flat_map}
use Rattle.page_text.specs.Parts.{with_parts}
use Rattle.instrument_charts.specs.Glyphs.{glyph_parts}
use Rattle.instrument_charts.proofs.Walks.{goes_on, goes_out}
use Rattle.instrument_charts.proofs.glyphs.add_glyphs.Goals as goal

pub loop-deal-preserved : goal.loop-deal-preserved
loop-deal-preserved c =
    goes_on (glyph_parts c.args.scale.now) c.args.deals.now c.loop-deal.deal-index c.deal-item.result c.loop-deal.page c.add_glyph.new.page (with_parts c.args.page.now (flat_map (glyph_parts c.args.scale.now) c.args.deals.now))
    c.loop-deal-test.true c.deal-item.is c.in_ok-add_glyph.ensures c.loop-deal.invariant

pub returns : goal.returns
returns c = goes_out (glyph_parts c.args.scale.now) c.args.deals.now c.loop-deal.deal-index c.loop-deal.page (with_parts c.args.page.now (flat_map (glyph_parts c.args.scale.now) c.args.deals.now)) c.loop-deal-test.false c.loop-deal.invariant
