use Rattle.std.proofs.Common.{◌∙◌, ap, sym, subst, ℕ, ◌<◌, Option}
use Rattle.std.specs.Prelude.{None}
use Rattle.page_text.specs.Parts.{with_parts}
use Rattle.day_tables.specs.Parts.{each_from}
use Rattle.chart_axes.specs.declared.range.Range.{Range}
use Rattle.instrument_charts.specs.Glyphs.{most_parts, range_or_none, range_parts}
use Rattle.instrument_charts.proofs.Making.{within}
use Rattle.instrument_charts.proofs.Walks.{counts_on, counts_out}
use Rattle.instrument_charts.proofs.glyphs.add_each_part.Goals as goal

pub loop-part-preserved : goal.loop-part-preserved
loop-part-preserved c =
    let k = c.loop-part.part in
    let made = c.in_ok-ranges.ensures in
    let xs = c.in_ok-ranges.ranges.items in
    let low : k < most_parts = c.loop-part-test.true in
    counts_on (range_parts c.args.scale.now c.args.deals.now) k most_parts c.loop-part.page c.add_part.new.page (with_parts c.args.page.now (each_from (range_parts c.args.scale.now c.args.deals.now) 0 most_parts))
    low (c.in_ok-add_part.ensures ∙ ap (λ (o : Option Range). with_parts c.loop-part.page (range_or_none c.args.scale.now k o)) (c.index.ensures ∙ (within xs k c.index.result.now None (subst (λ (m : ℕ). k < m) (sym made.0) low) ∙ made.1 k low)))
    c.loop-part.invariant

pub returns : goal.returns
returns c =
    counts_out (range_parts c.args.scale.now c.args.deals.now) c.loop-part.part most_parts c.loop-part.page (with_parts c.args.page.now (each_from (range_parts c.args.scale.now c.args.deals.now) 0 most_parts))
    c.loop-part-test.false c.loop-part.invariant
