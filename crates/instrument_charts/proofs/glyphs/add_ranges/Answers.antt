use Rattle.std.proofs.lemmas.Result.{on_ok_weaker}
use Rattle.day_tables.specs.Parts.{each_from, plain_part}
use Rattle.instrument_charts.specs.declared.template.TheConstants.{RANGES, RANGES_END}
use Rattle.instrument_charts.specs.Glyphs.{most_parts, range_parts}
use Rattle.instrument_charts.proofs.Walks.{in_frame}
use Rattle.instrument_charts.proofs.glyphs.add_ranges.Goals as goal

pub returns : goal.returns
returns c =
    on_ok_weaker c.add-2.result
    (in_frame c.args.page.now c.add.new.self c.add_each_part.new.page c.add-2.new.self (plain_part RANGES.now) (each_from (range_parts c.args.scale.now c.args.deals.now) 0 most_parts) (plain_part RANGES_END.now)
    c.in_ok-add.ensures.added c.in_ok-add_each_part.ensures)
    c.add-2.ensures.added
