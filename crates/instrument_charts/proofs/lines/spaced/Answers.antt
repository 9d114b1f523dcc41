use Rattle.std.specs.Prelude.{None, Some, refl}
use Rattle.instrument_charts.specs.Lines.{spaced}
use Rattle.instrument_charts.proofs.Walks.{spaces_on, spaces_out}
use Rattle.instrument_charts.proofs.lines.spaced.Goals as goal

pub loop-point-preserved : goal.loop-point-preserved
loop-point-preserved c =
    spaces_on c.args.scale.now c.args.points.now c.loop-point.point-index c.point-item.result c.loop-point.before (Some c.point-item.result) c.stands_before.result c.loop-point.kept.items c.push_point.new.points.items (spaced c.args.scale.now None c.args.points.now)
    c.loop-point-test.true c.point-item.is refl c.stands_before.ensures c.in_ok-push_point.ensures c.loop-point.invariant

pub returns : goal.returns
returns c =
    spaces_out c.args.scale.now c.args.points.now c.loop-point.point-index c.loop-point.before c.loop-point.kept.items c.push_point-2.new.points.items (spaced c.args.scale.now None c.args.points.now)
    c.loop-point-test.false c.in_ok-push_point-2.ensures c.loop-point.invariant
