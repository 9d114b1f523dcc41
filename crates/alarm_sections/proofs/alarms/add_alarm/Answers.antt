use Rattle.std.proofs.Common.{◌∷◌, [], ◌∙◌, ap, List, ℕ}
use Rattle.std.proofs.lemmas.Result.{on_ok_weaker}
use Rattle.page_text.specs.Parts.{with_part}
use Rattle.day_tables.specs.Parts.{plain_part}
use Rattle.alarm_sections.specs.declared.template.TheConstants.{ALARM, CELL_END}
use Rattle.alarm_sections.specs.Alarms.{place_part}
use Rattle.alarm_sections.proofs.alarms.add_alarm.Goals as goal

pub returns : goal.returns
returns c =
    let head = c.in_ok-add.ensures.added ∙ (λ j. with_part c.args.page.now (record { template = ALARM.now; values = (c.deref.ensures.value ∙ c.in_ok-words.ensures) j ∷ [] })) in
    let place = c.in_ok-add_place.ensures ∙ ap (λ (x : List ℕ). with_part x (place_part c.args.linked c.args.alarm.now.at)) head in
    on_ok_weaker c.add-2.result
    (λ h. h ∙ ap (λ (x : List ℕ). with_part x (plain_part CELL_END.now)) place)
    c.add-2.ensures.added
