use Rattle.std.proofs.Common.{◌∷◌, [], ◌∙◌, ◌≡◌, ◌++◌, ap, sym, List, ℕ, length, take, Bool}
use Rattle.std.proofs.lemmas.Result.{on_ok_weaker}
use Rattle.std.specs.List.{flat_map}
use Rattle.page_text.specs.Parts.{Part, with_part, with_parts}
use Rattle.day_tables.specs.Parts.{plain_part}
use Rattle.day_sections.proofs.Walks.{in_frame, in_turn}
use Rattle.request_sections.specs.Requests.{count_part, listed_parts, sheet_of}
use Rattle.request_sections.specs.declared.template.TheConstants.{REQUESTS, SECTION_END}
use Rattle.request_sections.proofs.section.add_some.Goals as goal

pub returns : goal.returns
returns c =
    on_ok_weaker c.add-2.result
    (in_frame c.args.page.now c.add.new.self c.add_listed.new.page c.add-2.new.self (count_part c.args.rooms.now) (listed_parts c.args.participants.now (sheet_of c.args.day.now) c.args.rooms.now) (plain_part SECTION_END.now)
    (c.in_ok-add.ensures.added ∙ (λ j. with_part c.args.page.now (record { template = REQUESTS.now; values = (c.deref.ensures.value ∙ c.in_ok-count.ensures) j ∷ [] })))
    c.in_ok-add_listed.ensures)
    c.add-2.ensures.added
