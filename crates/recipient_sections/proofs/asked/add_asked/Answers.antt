use Rattle.std.proofs.Common.{◌∷◌, [], ◌∙◌, List}
use Rattle.std.proofs.lemmas.Result.{on_ok_weaker}
use Rattle.std.specs.List.{flat_map}
use Rattle.page_text.specs.Parts.{Part, with_part}
use Rattle.day_tables.specs.Parts.{framed, plain_part}
use Rattle.day_sections.proofs.Walks.{in_frame, in_turn}
use Rattle.day_sections.specs.Values.{row_part}
use Rattle.recipient_sections.specs.Asked.{asked_part, name_parts}
use Rattle.recipient_sections.specs.declared.template.TheConstants.{ASKED_ROW, ROOM_ASKED}
use Rattle.recipient_sections.proofs.asked.add_asked.Goals as goal

pub returns : goal.returns
returns c =
    let head : Part = asked_part c.args.room in
    let names : List Part = flat_map (name_parts c.args.participants.now) c.args.asked.now in
    let row : Part = row_part c.args.linked c.args.opened.now.at.row in
    on_ok_weaker c.add_row_number.result
    (in_turn c.args.page.now c.add-2.new.self c.add_row_number.new.page (framed head names (plain_part ASKED_ROW.now)) (row ∷ [])
    (in_frame c.args.page.now c.add.new.self c.add_names.new.page c.add-2.new.self head names (plain_part ASKED_ROW.now)
    (c.in_ok-add.ensures.added ∙ (λ j. with_part c.args.page.now (record { template = ROOM_ASKED.now; values = (c.deref.ensures.value ∙ c.in_ok-number.ensures) j ∷ [] })))
    c.in_ok-add_names.ensures c.in_ok-add-2.ensures.added))
    c.add_row_number.ensures
