use Rattle.std.proofs.Common.{◌∙◌, ap}
use Rattle.std.proofs.lemmas.Result.{on_ok_weaker}
use Rattle.page_text.specs.Parts.{with_parts}
use Rattle.day_sections.specs.Reports.{reports}
use Rattle.day_page.specs.Sections.{charts_parts, reported_parts, said_of}
use Rattle.day_page.proofs.Pages.{err_says_nothing, tables_are}
use Rattle.day_page.proofs.printing.add_tables.Goals as goal

pub returns-in_err-reports : goal.returns-in_err-reports
returns-in_err-reports c = λ h is. err_says_nothing _ c.from_residual.result _ c.from_residual.ensures.1

pub returns-in_err-add_counts : goal.returns-in_err-add_counts
returns-in_err-add_counts c = λ h is. err_says_nothing _ c.from_residual-in_err-add_counts.result _ c.from_residual-in_err-add_counts.ensures.1

pub returns-in_err-add_charts : goal.returns-in_err-add_charts
returns-in_err-add_charts c = λ h is. err_says_nothing _ c.from_residual-in_err-add_charts.result _ c.from_residual-in_err-add_charts.ensures.1

pub returns : goal.returns
returns c = λ h is.
    let day = c.args.day.now in
    let m = day.venue.market in
    let rs = c.args.rows.now in
    on_ok_weaker c.add_reported.result
    (λ e. tables_are m rs h (said_of day) c.args.linked.now c.in_ok-reports.reports.items c.args.page.now c.add_counts.new.page c.add_charts.new.page c.add_reported.new.page
    (c.in_ok-reports.ensures ∙ ap reports c.deref.ensures.value)
    (c.in_ok-add_counts.ensures h is)
    (c.in_ok-add_charts.ensures h is ∙ (λ j. with_parts c.add_counts.new.page (charts_parts m rs h (c.deref-2.ensures.value j) day.bests.items)))
    (e ∙ (λ j. with_parts c.add_charts.new.page (reported_parts m rs h (c.deref-3.ensures.value j) c.args.linked.now))))
    (c.add_reported.ensures h is)
