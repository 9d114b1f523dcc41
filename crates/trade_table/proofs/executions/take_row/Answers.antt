use Rattle.trade_table.proofs.Walking.{takes_row}
use Rattle.venue_core.specs.Plan.{answer_of}
use Rattle.trade_table.proofs.executions.take_row.Goals as goal

pub returns-clause-taken : goal.returns-clause-taken
returns-clause-taken c =
    let taken = c.in_ok-taken.taken in
    let row = c.args.row.now in
    let planned = c.in_ok-plan.ensures in
    let added = c.in_ok-push_row.ensures in
    takes_row c.day_goes_on.ensures.takes row taken row.moment c.args.venue.now c.plan_item.new.venue c.apply.new.self (answer_of c.in_ok-plan.plan) c.replies.result.now c.args.known.now.items c.push_row.new.known.items c.args.executions.now.items
    c.push_row.new.executions.items c.in_ok-taken.ensures (record { market = planned.market; day = planned.day }) planned.planned c.apply.ensures.market c.apply.ensures.after c.replies.ensures added.made added.known
