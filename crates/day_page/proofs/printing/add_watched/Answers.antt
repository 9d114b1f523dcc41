use Rattle.std.proofs.lemmas.Result.{on_ok_weaker}
use Rattle.day_page.specs.Sections.{found_of, said_of}
use Rattle.day_page.proofs.Pages.{err_says_nothing, watched_are}
use Rattle.day_page.proofs.printing.add_watched.Goals as goal

pub returns-in_err-add_linked : goal.returns-in_err-add_linked
returns-in_err-add_linked c = λ items emitted. err_says_nothing _ c.from_residual.result _ c.from_residual.ensures.1

pub returns-in_err-add_crossed : goal.returns-in_err-add_crossed
returns-in_err-add_crossed c = λ items emitted. err_says_nothing _ c.from_residual-in_err-add_crossed.result _ c.from_residual-in_err-add_crossed.ensures.1

pub returns : goal.returns
returns c = λ items emitted.
    let day = c.args.day.now in
    on_ok_weaker c.add_alarms.result
    (watched_are day.venue.market c.args.rows.now items (said_of day) (found_of c.args.found.now) c.participants-participants.result.now c.are_shown.result c.are_shown-2.result c.is_dated.result c.deref.result.now c.deref-2.result.now
    c.args.page.now c.add_linked.new.page c.add_crossed.new.page c.add_alarms.new.page
    c.participants-participants.ensures c.are_shown.ensures c.are_shown-2.ensures c.is_dated.ensures c.deref.ensures.value c.deref-2.ensures.value c.in_ok-add_linked.ensures (c.in_ok-add_crossed.ensures items emitted))
    c.add_alarms.ensures
