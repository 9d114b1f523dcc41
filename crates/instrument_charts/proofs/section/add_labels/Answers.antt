use Rattle.std.proofs.lemmas.Result.{on_ok_weaker}
use Rattle.chart_axes.specs.Ticks.{prices_parts, times_parts}
use Rattle.instrument_charts.proofs.Walks.{in_turn}
use Rattle.instrument_charts.proofs.section.add_labels.Goals as goal

pub returns : goal.returns
returns c =
    let s = c.args.scale.now in
    on_ok_weaker c.add_times.result
    (λ e. in_turn c.args.page.now c.add_prices.new.page c.add_times.new.page (prices_parts s) (times_parts s) c.in_ok-add_prices.ensures e)
    c.add_times.ensures
