use Rattle.std.proofs.Common.{◌++◌, ◌∙◌, ap, sym, Option}
use Rattle.std.proofs.lemmas.Result.{on_ok_weaker}
use Rattle.page_text.specs.Parts.{with_part, with_parts}
use Rattle.instruments.specs.Listing.{symbol_of, tick_of}
use Rattle.day_tables.specs.Parts.{plain_part}
use Rattle.chart_axes.specs.declared.range.Range.{Range}
use Rattle.instrument_charts.specs.declared.template.TheConstants.{INSTRUMENT_END}
use Rattle.instrument_charts.specs.Instruments.{are_folded, chart_parts, instrument_by, opening_part, ranged_parts, scale_of, sheet_of}
use Rattle.instrument_charts.specs.Ladders.{ladder_parts}
use Rattle.instrument_charts.specs.Prices.{range_of}
use Rattle.instrument_charts.proofs.Walks.{in_frame, in_turn}
use Rattle.instrument_charts.proofs.section.add_instrument.Goals as goal

pub returns-in-None : goal.returns-in-None
returns-in-None c =
    let file = c.args.instruments.now in
    let d = sheet_of c.args.day.now in
    let x = c.args.instrument in
    let page = c.args.page.now in
    ap (λ (o : Option Range). with_parts page (ranged_parts file d x c.in_ok-deals.deals.items c.in_ok-bids.bids.items c.in_ok-offers.offers.items o))
    (sym c.in-None.is ∙ (c.range_of.ensures ∙ (λ j. range_of (c.tick_at-tick.ensures j) (c.deref.ensures.value j) (c.deref-2.ensures.value j) (c.deref-3.ensures.value j))))
    ∙ (λ j. with_parts page (instrument_by file d x (c.in_ok-deals.ensures j) (c.in_ok-bids.ensures j) (c.in_ok-offers.ensures j)))

pub returns : goal.returns
returns c =
    let file = c.args.instruments.now in
    let d = sheet_of c.args.day.now in
    let x = c.args.instrument in
    let page = c.args.page.now in
    let s = scale_of d (tick_of file x) c.in-Some.range in
    let ds = c.in_ok-deals.deals.items in
    let bids = c.in_ok-bids.bids.items in
    let offers = c.in_ok-offers.offers.items in
    let one = c.add_opening.new.page in
    let two = c.add_chart.new.page in
    let three = c.add_ladder.new.page in
    let last = c.add.new.self in
    let symbol = symbol_of file x in
    on_ok_weaker c.add.result
    (λ e. in_frame page one three last (opening_part (are_folded file) symbol ds) (chart_parts s symbol ds bids offers ++ ladder_parts (tick_of file x) x d.rests) (plain_part INSTRUMENT_END.now)
    (c.in_ok-add_opening-in-Some.ensures ∙ (λ j. with_part page (opening_part (c.are_folded.ensures j) (c.symbol_at.ensures j) (c.deref-in-Some.ensures.value j))))
    (in_turn one two three (chart_parts s symbol ds bids offers) (ladder_parts (tick_of file x) x d.rests)
    (c.in_ok-add_chart-in-Some.ensures ∙ (λ j. with_parts one (chart_parts (scale_of d (c.tick_at-tick.ensures j) c.in-Some.range) (c.symbol_at.ensures j) (c.deref-in-Some.ensures.value j) (c.deref-in-Some-2.ensures.value j) (c.deref-in-Some-3.ensures.value j))))
    (c.in_ok-add_ladder-in-Some.ensures ∙ (λ j. with_parts two (ladder_parts (c.tick_at-tick.ensures j) x d.rests))))
    e
    ∙ (ap (λ (o : Option Range). with_parts page (ranged_parts file d x ds bids offers o))
    (sym c.in-Some.is ∙ (c.range_of.ensures ∙ (λ j. range_of (c.tick_at-tick.ensures j) (c.deref.ensures.value j) (c.deref-2.ensures.value j) (c.deref-3.ensures.value j))))
    ∙ (λ j. with_parts page (instrument_by file d x (c.in_ok-deals.ensures j) (c.in_ok-bids.ensures j) (c.in_ok-offers.ensures j)))))
    c.add.ensures.added
