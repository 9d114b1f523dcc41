use Rattle.std.proofs.Common.{ap, ◌∙◌, ◌++◌}
use Rattle.venue_rules.specs.Market.{Market}
use Rattle.participant_activity.specs.Figures.{activity_text}
use Rattle.participant_activity.specs.Kept.{activity_of}
use Rattle.participant_activity.proofs.Texts.{activity_is}
use Rattle.participant_activity.proofs.printing.activity_after.Goals as goal

pub returns : goal.returns
returns c =
    let a = c.args in
    let day = c.in_ok-day.day in
    activity_is c.rows_have_their_inputs.ensures c.turns_are_whole.ensures.sent c.turns_are_whole.ensures.owed c.turns_are_whole.ensures.kept a.form (record { participants = a.participants; instruments = a.instruments }) a.rows.now a.who day.venue (activity_of day.activity) c.participants.result.now c.append_activity.new.text.items
    c.in_ok-day.ensures.noted c.participants.ensures
    (c.in_ok-append_activity.ensures ∙ (λ j. c.new-text.ensures.items j ++ activity_text a.form (c.name_at.ensures j) (activity_of day.activity)))
