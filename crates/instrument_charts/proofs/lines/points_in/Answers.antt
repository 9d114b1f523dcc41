use Rattle.std.specs.List.{filter_map}
use Rattle.instrument_charts.specs.Lines.{point_at}
use Rattle.instrument_charts.proofs.Walks.{makes_on, makes_out}
use Rattle.instrument_charts.proofs.lines.points_in.Goals as goal

pub loop-best-preserved : goal.loop-best-preserved
loop-best-preserved c =
    makes_on (point_at c.args.instrument c.args.side) c.args.bests.now c.loop-best.best-index c.best-item.result c.point_at.result c.loop-best.points.items c.push_point.new.points.items (filter_map (point_at c.args.instrument c.args.side) c.args.bests.now)
    c.loop-best-test.true c.best-item.is c.point_at.ensures c.in_ok-push_point.ensures c.loop-best.invariant

pub returns : goal.returns
returns c = makes_out (point_at c.args.instrument c.args.side) c.args.bests.now c.loop-best.best-index c.loop-best.points.items (filter_map (point_at c.args.instrument c.args.side) c.args.bests.now) c.loop-best-test.false c.loop-best.invariant
