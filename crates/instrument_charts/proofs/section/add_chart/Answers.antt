use Rattle.std.proofs.lemmas.Result.{on_ok_weaker}
use Rattle.day_tables.specs.Parts.{plain_part}
use Rattle.instrument_charts.specs.declared.template.TheConstants.{CHART_END}
use Rattle.instrument_charts.specs.Instruments.{chart_part, content_parts}
use Rattle.instrument_charts.proofs.Walks.{in_frame}
use Rattle.instrument_charts.proofs.section.add_chart.Goals as goal

pub returns : goal.returns
returns c =
    let s = c.args.scale.now in
    let shown = c.args.shown.now in
    on_ok_weaker c.add.result
    (in_frame c.args.page.now c.add_frame.new.page c.add_content.new.page c.add.new.self (chart_part shown.symbol.now shown.deals.now) (content_parts s shown.deals.now shown.bids.now shown.offers.now) (plain_part CHART_END.now)
    c.in_ok-add_frame.ensures c.in_ok-add_content.ensures)
    c.add.ensures.added
