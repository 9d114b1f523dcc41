use Rattle.std.proofs.Common.{◌∙◌}
use Rattle.venue_core.specs.Plan.{answer_of}
use Rattle.row_replay.specs.Inputs.{input_of}
use Rattle.trail_comparison.proofs.SideBySide.{emits, steps}
use Rattle.trail_comparison.proofs.replaying.emit_row.Goals as goal

pub returns-clause-emitted : goal.returns-clause-emitted
returns-clause-emitted g c =
    let a = c.args in
    let i = input_of c.in_ok-taken.taken a.row.now.moment in
    let p = c.in_ok-plan.ensures in
    let q = c.in_ok-other.ensures in
    let law = c.day_goes_on.ensures.takes in
    let one = steps law i a.a.now c.plan_item.new.venue c.apply.new.self (answer_of c.in_ok-plan.plan) c.participants.result.now c.replies.result.now (record { market = p.market; day = p.day }) p.planned
    c.apply.ensures.market c.apply.ensures.after c.participants.ensures c.replies.ensures in
    let other = steps law i a.b.now c.plan_item-2.new.venue c.apply-2.new.self (answer_of c.in_ok-other.other) c.participants-2.result.now c.replies-2.result.now (record { market = q.market; day = q.day }) q.planned
    c.apply-2.ensures.market c.apply-2.ensures.after c.participants-2.ensures c.replies-2.ensures in
    emits a.row.now i a.a.now c.apply.new.self a.b.now c.apply-2.new.self (answer_of c.in_ok-plan.plan) (answer_of c.in_ok-other.other) c.participants.result.now c.participants-2.result.now c.replies.result.now c.replies-2.result.now
    c.in_ok-text.count c.deref.result.now (g.W.Write.contents a.writer.now) (g.W.Write.contents c.write_text.new.writer) c.in_ok-taken.ensures one other (c.deref.ensures.value ∙ c.in_ok-text.ensures.text)
    c.in_ok-text.ensures.count c.in_ok-write_text.ensures.written
