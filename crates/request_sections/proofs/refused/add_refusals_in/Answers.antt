use Rattle.std.proofs.Common.{◌∷◌, [], ◌∙◌, ap, List}
use Rattle.std.proofs.lemmas.Result.{on_ok_weaker}
use Rattle.page_text.specs.Parts.{with_parts}
use Rattle.day_events.specs.declared.event.Event.{Event}
use Rattle.day_tables.specs.Parts.{plain_part}
use Rattle.day_sections.proofs.Walks.{in_turn}
use Rattle.request_sections.specs.Refused.{if_refused, refused_in}
use Rattle.request_sections.specs.declared.template.TheConstants.{ASKED_END}
use Rattle.request_sections.proofs.refused.add_refusals_in.Goals as goal

pub returns : goal.returns
returns c =
    let file = c.args.participants.now in
    let day = c.args.day.now in
    on_ok_weaker c.add.result
    (λ e. in_turn c.args.page.now c.add_if_refused.new.page c.add.new.self (if_refused file day.dated day.linked (refused_in c.args.row c.args.room c.args.quotes.now day.events.now)) (plain_part ASKED_END.now ∷ [])
    (c.in_ok-add_if_refused.ensures ∙ ap (λ (l : List Event). with_parts c.args.page.now (if_refused file day.dated day.linked l)) (c.deref.ensures.value ∙ c.in_ok-refused.ensures)) e)
    c.add.ensures.added
