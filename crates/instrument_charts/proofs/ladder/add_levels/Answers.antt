use Rattle.std.specs.List.{flat_map}
use Rattle.page_text.specs.Parts.{with_parts}
use Rattle.instrument_charts.specs.Ladders.{level_parts}
use Rattle.instrument_charts.proofs.Walks.{goes_on, goes_out}
use Rattle.instrument_charts.proofs.ladder.add_levels.Goals as goal

pub loop-first-preserved : goal.loop-first-preserved
loop-first-preserved c =
    goes_on (level_parts c.args.book.now.tick c.args.book.now.side c.args.book.now.rests.now) c.args.levels.now c.loop-first.first-index c.first-item.result c.loop-first.page c.add_level.new.page (with_parts c.args.page.now (flat_map (level_parts c.args.book.now.tick c.args.book.now.side c.args.book.now.rests.now) c.args.levels.now))
    c.loop-first-test.true c.first-item.is c.in_ok-add_level.ensures c.loop-first.invariant

pub returns : goal.returns
returns c = goes_out (level_parts c.args.book.now.tick c.args.book.now.side c.args.book.now.rests.now) c.args.levels.now c.loop-first.first-index c.loop-first.page (with_parts c.args.page.now (flat_map (level_parts c.args.book.now.tick c.args.book.now.side c.args.book.now.rests.now) c.args.levels.now)) c.loop-first-test.false c.loop-first.invariant
