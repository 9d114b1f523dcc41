use Rattle.std.proofs.lemmas.Result.{on_ok_weaker}
use Rattle.day_page.proofs.Pages.{charts_are, err_says_nothing}
use Rattle.day_page.proofs.printing.add_charts.Goals as goal

pub returns-in_err-deals : goal.returns-in_err-deals
returns-in_err-deals c = λ h is. err_says_nothing _ c.from_residual.result _ c.from_residual.ensures.1

pub returns-in_err-rests : goal.returns-in_err-rests
returns-in_err-rests c = λ h is. err_says_nothing _ c.from_residual-in_err-rests.result _ c.from_residual-in_err-rests.ensures.1

pub returns : goal.returns
returns c = λ h is.
    let day = c.args.day.now in
    on_ok_weaker c.add_instruments.result
    (charts_are day.venue.market c.args.rows.now h c.args.reports.now day.bests.items c.deref-2.result.now c.instruments.result.now c.first_moment.result c.last_moment.result c.trades.result.now c.in_ok-deals.deals.items c.deref.result.now c.in_ok-rests.rests.items c.deref-3.result.now
    c.args.page.now c.add_instruments.new.page
    c.instruments.ensures c.first_moment.ensures c.last_moment.ensures (c.trades.ensures h is) c.in_ok-deals.ensures c.deref.ensures.value c.deref-2.ensures.value (c.in_ok-rests.ensures h is) c.deref-3.ensures.value)
    c.add_instruments.ensures
