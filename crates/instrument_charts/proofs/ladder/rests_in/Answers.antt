use Rattle.std.proofs.Common.{filter}
use Rattle.instrument_charts.specs.Ladders.{is_at}
use Rattle.instrument_charts.proofs.Walks.{picks_on, picks_out}
use Rattle.instrument_charts.proofs.ladder.rests_in.Goals as goal

pub loop-rest-preserved : goal.loop-rest-preserved
loop-rest-preserved c =
    picks_on (is_at c.args.instrument c.args.side) c.args.rests.now c.loop-rest.rest-index c.rest-item.result c.is_at.result c.loop-rest.kept.items c.keep.new.rests.items (filter (is_at c.args.instrument c.args.side) c.args.rests.now)
    c.loop-rest-test.true c.rest-item.is c.is_at.ensures c.in_ok-keep.ensures c.loop-rest.invariant

pub returns : goal.returns
returns c = picks_out (is_at c.args.instrument c.args.side) c.args.rests.now c.loop-rest.rest-index c.loop-rest.kept.items (filter (is_at c.args.instrument c.args.side) c.args.rests.now) c.loop-rest-test.false c.loop-rest.invariant
