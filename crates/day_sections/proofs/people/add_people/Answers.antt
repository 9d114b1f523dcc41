use Rattle.std.proofs.Common.{◌∷◌, [], ◌∙◌, ap, List, length}
use Rattle.std.proofs.lemmas.Result.{on_ok_weaker}
use Rattle.page_text.specs.Parts.{with_part, with_parts}
use Rattle.day_tables.specs.Parts.{each_from, plain_part}
use Rattle.day_tables.specs.Values.{grouped}
use Rattle.day_events.specs.declared.event.Event.{Event}
use Rattle.day_sections.specs.declared.template.TheConstants.{PEOPLE, PEOPLE_END}
use Rattle.day_sections.specs.People.{people_part, person_parts}
use Rattle.day_sections.specs.Rooms.{rooms}
use Rattle.day_sections.proofs.Walks.{in_frame}
use Rattle.day_sections.proofs.people.add_people.Goals as goal

pub returns : goal.returns
returns c =
    let a = c.args in
    let n = length a.participants.now.names in
    let k = a.counted.now in
    let list = λ (l : List Event). each_from (person_parts a.participants.now k.rows.now k.trades.now k.events.now l k.deeds.now) 0 n in
    on_ok_weaker c.add-2.result
    (in_frame a.page.now c.add.new.self c.add_each.new.page c.add-2.new.self (people_part a.participants.now) (list (rooms k.events.now)) (plain_part PEOPLE_END.now)
    (c.in_ok-add.ensures.added ∙ (λ j. with_part a.page.now (record { template = PEOPLE.now; values = (c.deref-2.ensures.value ∙ (c.in_ok-people.ensures ∙ ap grouped c.len.ensures.count)) j ∷ [] })))
    (c.in_ok-add_each.ensures ∙ ap (λ (l : List Event). with_parts c.add.new.self (list l)) (c.deref.ensures.value ∙ c.in_ok-rooms.ensures)))
    c.add-2.ensures.added
