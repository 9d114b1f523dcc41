use Rattle.venue_core.specs.Plan.{answer_of}
use Rattle.row_replay.specs.Inputs.{input_of}
use Rattle.desk_log.specs.Owed.{owed_views}
use Rattle.desk_log.proofs.OwedRows.{owes}
use Rattle.desk_log.proofs.owed.owe_row.Goals as goal

pub returns-clause-owed : goal.returns-clause-owed
returns-clause-owed c =
    let a = c.args in
    let i = input_of c.in_ok-taken.taken a.row.now.moment in
    let planned = c.in_ok-plan.ensures in
    owes c.day_goes_on.ensures.takes a.who a.row.now i a.venue.now c.plan_item.new.venue c.apply.new.self (answer_of c.in_ok-plan.plan) c.replies.result.now
    (owed_views a.owed.now.items) (owed_views c.append_replies.new.owed.items) c.in_ok-taken.ensures (record { market = planned.market; day = planned.day }) planned.planned
    c.apply.ensures.market c.apply.ensures.after c.replies.ensures c.in_ok-append_replies.ensures
