use Rattle.page_text.specs.Parts.{with_parts}
use Rattle.day_tables.specs.Parts.{each_from}
use Rattle.chart_axes.specs.Ticks.{time_parts, most_times}
use Rattle.day_tables.proofs.Walks.{counts_on, counts_out}
use Rattle.chart_axes.proofs.ticks.add_each_time.Goals as goal

pub loop-place-preserved : goal.loop-place-preserved
loop-place-preserved c =
    counts_on (time_parts c.args.scale.now c.args.span) c.loop-place.place most_times c.loop-place.page c.add_time_at.new.page (with_parts c.args.page.now (each_from (time_parts c.args.scale.now c.args.span) 0 most_times))
    c.loop-place-test.true c.in_ok-add_time_at.ensures c.loop-place.invariant

pub returns : goal.returns
returns c = counts_out (time_parts c.args.scale.now c.args.span) c.loop-place.place most_times c.loop-place.page (with_parts c.args.page.now (each_from (time_parts c.args.scale.now c.args.span) 0 most_times)) c.loop-place-test.false c.loop-place.invariant
