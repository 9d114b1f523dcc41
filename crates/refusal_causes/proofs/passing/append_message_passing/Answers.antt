use Rattle.std.proofs.Common.{◌∙◌, ◌++◌, ℕ, List, ap}
use Rattle.venue_rules.specs.Answer.{Answer}
use Rattle.refusal_causes.proofs.Texts.{same_passing}
use Rattle.refusal_causes.proofs.passing.append_message_passing.Goals as goal

pub returns-clause-text : goal.returns-clause-text
returns-clause-text c = λ h is.
    let planned = c.in_ok-plan.ensures in
    c.in_ok-append_passing_lines.ensures
    ∙ ap (λ (l : List ℕ). c.args.text.now.items ++ l)
    (same_passing c.args.venue.now.market c.plan.new.self.market c.participants.result.now c.instruments.result.now c.args.taken.now.from c.args.moment c.args.passes c.replies.result.now _
    c.participants.ensures c.instruments.ensures planned.market (c.replies.ensures ∙ ap (λ (a : Answer). a.replies) (planned.planned h is)))
