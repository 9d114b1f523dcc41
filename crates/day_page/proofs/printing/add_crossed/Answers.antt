use Rattle.std.proofs.lemmas.Result.{on_ok_weaker}
use Rattle.day_page.proofs.Pages.{crossed_are, err_says_nothing}
use Rattle.day_page.proofs.printing.add_crossed.Goals as goal

pub returns-in_err-crosses : goal.returns-in_err-crosses
returns-in_err-crosses c = λ items emitted. err_says_nothing _ c.from_residual.result _ c.from_residual.ensures.1

pub returns : goal.returns
returns c = λ items emitted.
    let day = c.args.day.now in
    on_ok_weaker c.add_crosses.result
    (crossed_are day.venue.market c.args.rows.now items day.events.items c.deref.result.now c.participants.result.now c.instruments-instruments.result.now c.are_shown.result c.is_dated.result c.in_ok-crosses.crosses.items c.deref-2.result.now
    c.args.page.now c.add_crosses.new.page
    c.participants.ensures c.instruments-instruments.ensures c.deref.ensures.value c.are_shown.ensures c.is_dated.ensures (c.in_ok-crosses.ensures items emitted) c.deref-2.ensures.value)
    c.add_crosses.ensures
