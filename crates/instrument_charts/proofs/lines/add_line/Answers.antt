use Rattle.std.specs.Prelude.{false}
use Rattle.std.proofs.lemmas.Result.{on_ok_weaker}
use Rattle.page_text.specs.Parts.{with_parts}
use Rattle.instrument_charts.specs.Lines.{line_parts}
use Rattle.instrument_charts.proofs.Walks.{line_on, line_out}
use Rattle.instrument_charts.proofs.lines.add_line.Goals as goal

pub loop-point-preserved : goal.loop-point-preserved
loop-point-preserved c =
    line_on c.args.scale.now c.args.points.now c.loop-point.point-index c.point-item.result c.loop-point.drawn c.is_some-drawn.result c.loop-point.page c.add_turn.new.page (with_parts c.args.page.now (line_parts c.args.scale.now false c.args.points.now))
    c.loop-point-test.true c.point-item.is c.is_some-drawn.ensures c.in_ok-add_turn.ensures c.loop-point.invariant

pub returns : goal.returns
returns c =
    on_ok_weaker c.add_turn-2.result
    (λ e. line_out c.args.scale.now c.args.points.now c.loop-point.point-index c.loop-point.drawn c.loop-point.page c.add_turn-2.new.page (with_parts c.args.page.now (line_parts c.args.scale.now false c.args.points.now))
    c.loop-point-test.false e c.loop-point.invariant)
    c.add_turn-2.ensures
