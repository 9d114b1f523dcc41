use Rattle.std.proofs.lemmas.Result.{on_ok_weaker}
use Rattle.day_page.specs.Sections.{said_of}
use Rattle.day_page.proofs.Pages.{counts_are, err_says_nothing}
use Rattle.day_page.proofs.printing.add_counts.Goals as goal

pub returns-in_err-add_figures : goal.returns-in_err-add_figures
returns-in_err-add_figures c = λ h is. err_says_nothing _ c.from_residual.result _ c.from_residual.ensures.1

pub returns-in_err-add_law : goal.returns-in_err-add_law
returns-in_err-add_law c = λ h is. err_says_nothing _ c.from_residual-in_err-add_law.result _ c.from_residual-in_err-add_law.ensures.1

pub returns : goal.returns
returns c = λ h is.
    let day = c.args.day.now in
    on_ok_weaker c.add_bulletin.result
    (counts_are day.venue.market c.args.rows.now h (said_of day) c.args.linked.now c.participants-participants.result.now c.instruments-instruments.result.now c.trades-trades.result.now c.deref.result.now
    c.args.page.now c.add_figures.new.page c.add_law.new.page c.add_bulletin.new.page
    c.participants-participants.ensures c.instruments-instruments.ensures (c.trades-trades.ensures h is) c.deref.ensures.value c.in_ok-add_figures.ensures (c.in_ok-add_law.ensures h is))
    c.add_bulletin.ensures
