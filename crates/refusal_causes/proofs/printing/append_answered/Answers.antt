use Rattle.std.proofs.Common.{◌∙◌, ap}
use Rattle.venue_rules.specs.Answer.{Answer}
use Rattle.row_replay.specs.Inputs.{input_of}
use Rattle.refusal_causes.proofs.Texts.{same_answered}
use Rattle.refusal_causes.proofs.printing.append_answered.Goals as goal

pub returns-clause-text : goal.returns-clause-text
returns-clause-text c = λ h is.
    let a = c.args in
    let planned = c.in_ok-plan.ensures in
    same_answered a.venue.now.market c.plan_item.new.venue.market h a.row.now (input_of a.taken.now a.row.now.moment) a.place.cause a.place.count c.participants.result.now c.participants-2.result.now c.instruments.result.now c.replies-replies.result.now
    a.text.now.items c.append_row.new.text.items c.append_verdict.new.text.items c.participants.ensures c.participants-2.ensures c.instruments.ensures planned.market (c.replies-replies.ensures ∙ ap (λ (x : Answer). x.replies) (planned.planned h is))
    c.in_ok-append_row.ensures (c.in_ok-append_verdict.ensures a.row.now.moment)
