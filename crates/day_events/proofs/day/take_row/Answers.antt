use Rattle.std.proofs.Common.{List, ap, ◌∙◌}
use Rattle.instruments.specs.declared.instruments.Instrument.{Instrument}
use Rattle.venue_core.specs.Plan.{answer_of}
use Rattle.day_events.specs.Bests.{reported_in}
use Rattle.day_events.proofs.Walking.{takes_row}
use Rattle.day_events.proofs.day.take_row.Goals as goal

pub returns-clause-taken : goal.returns-clause-taken
returns-clause-taken c =
    let planned = c.in_ok-plan.ensures in
    let row = c.args.row.now in
    takes_row c.day_goes_on.ensures.takes row c.in_ok-taken.taken row.moment c.args.venue.now c.plan_item.new.venue c.apply.new.self (answer_of c.in_ok-plan.plan) c.replies-replies.result.now c.args.events.now.items
    c.push_events_at.new.events.items c.args.shown.now.items c.push_shown_at.new.shown.items c.reported_in-reported.result c.in_ok-taken.ensures (record { market = planned.market; day = planned.day }) planned.planned c.apply.ensures.market c.apply.ensures.after c.replies-replies.ensures c.in_ok-push_events_at.ensures c.in_ok-push_shown_at.ensures (c.reported_in-reported.ensures ∙ ap (λ (file : List Instrument). reported_in file c.replies-replies.result.now) c.instruments.ensures)
