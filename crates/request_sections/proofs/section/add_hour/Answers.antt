use Rattle.std.proofs.Common.{◌∷◌, [], ◌∙◌, ◌≡◌, ◌++◌, ap, sym, List, ℕ, length, take, Bool}
use Rattle.std.proofs.lemmas.Result.{on_ok_weaker}
use Rattle.std.specs.List.{flat_map}
use Rattle.page_text.specs.Parts.{Part, with_part, with_parts}
use Rattle.day_tables.specs.Parts.{plain_part}
use Rattle.day_sections.proofs.Walks.{in_frame, in_turn}
use Rattle.request_sections.specs.Requests.{each_request, hour_part, sheet_of}
use Rattle.request_sections.specs.declared.template.TheConstants.{HOUR_OF_REQUESTS_END}
use Rattle.request_sections.proofs.section.add_hour.Goals as goal

pub returns : goal.returns
returns c =
    let day = c.args.day.now in
    on_ok_weaker c.add.result
    (in_frame c.args.page.now c.add_hour_head.new.page c.add_each.new.page c.add.new.self (hour_part day.events.now c.args.rooms.now) (each_request c.args.participants.now (sheet_of day) c.args.rooms.now) (plain_part HOUR_OF_REQUESTS_END.now)
    c.in_ok-add_hour_head.ensures c.in_ok-add_each.ensures)
    c.add.ensures.added
