use Rattle.venue_core.specs.Plan.{answer_of}
use Rattle.row_replay.specs.Inputs.{input_of}
use Rattle.trail_comparison.proofs.replaying.take_alone.Goals as goal

pub returns-clause-taken : goal.returns-clause-taken
returns-clause-taken c =
    let i = input_of c.in_ok-taken.taken c.args.row.now.moment in
    let p = c.in_ok-plan.ensures in (
      i,
      answer_of c.in_ok-plan.plan,
      c.in_ok-taken.ensures,
      c.day_goes_on.ensures.takes i c.args.venue.now c.plan_item.new.venue c.apply.new.self (answer_of c.in_ok-plan.plan) (record { market = p.market; day = p.day }) p.planned c.apply.ensures.market c.apply.ensures.after,
    )
