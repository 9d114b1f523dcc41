use Rattle.venue_core.specs.Plan.{answer_of}
use Rattle.participant_activity.specs.Kept.{activity_of}
use Rattle.participant_activity.proofs.RowByRow.{notes_row}
use Rattle.participant_activity.proofs.replaying.take_row.Goals as goal

pub returns-clause-noted : goal.returns-clause-noted
returns-clause-noted c =
    let planned = c.in_ok-plan.ensures in
    let row = c.args.row.now in
    notes_row c.day_goes_on.ensures.takes c.args.who row c.in_ok-taken.taken row.moment c.args.venue.now c.plan_item.new.venue c.apply.new.self (answer_of c.in_ok-plan.plan) c.replies-replies.result.now (activity_of c.args.activity.now) (activity_of c.note_row.new.activity) c.in_ok-taken.ensures
    (record { market = planned.market; day = planned.day }) planned.planned c.apply.ensures.market c.apply.ensures.after c.replies-replies.ensures c.in_ok-note_row.ensures
