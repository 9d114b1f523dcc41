use Rattle.std.proofs.lemmas.Result.{on_ok_weaker}
use Rattle.day_page.specs.Sections.{said_of}
use Rattle.day_page.proofs.Pages.{answered_are, err_says_nothing}
use Rattle.day_page.proofs.printing.add_answered.Goals as goal

pub returns-in_err-add_requests : goal.returns-in_err-add_requests
returns-in_err-add_requests c = λ h is. err_says_nothing _ c.from_residual.result _ c.from_residual.ensures.1

pub returns-in_err-add_refusals : goal.returns-in_err-add_refusals
returns-in_err-add_refusals c = λ h is. err_says_nothing _ c.from_residual-in_err-add_refusals.result _ c.from_residual-in_err-add_refusals.ensures.1

pub returns : goal.returns
returns c = λ h is.
    let day = c.args.day.now in
    on_ok_weaker c.add_people.result
    (answered_are day.venue.market c.args.rows.now h (said_of day) c.args.deeds.now c.are_shown-linked.result c.participants-participants.result.now c.instruments-instruments.result.now c.trades.result.now
    c.deref-2.result.now c.deref-4.result.now c.deref.result.now c.deref-3.result.now
    c.args.page.now c.add_requests.new.page c.add_refusals.new.page c.add_people.new.page
    c.participants-participants.ensures c.instruments-instruments.ensures (c.trades.ensures h is) c.are_shown-linked.ensures
    c.deref-2.ensures.value c.deref-4.ensures.value c.deref.ensures.value c.deref-3.ensures.value
    c.in_ok-add_requests.ensures c.in_ok-add_refusals.ensures)
    c.add_people.ensures
