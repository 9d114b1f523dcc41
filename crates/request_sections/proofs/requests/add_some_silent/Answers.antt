use Rattle.std.proofs.Common.{◌∷◌, [], ◌∙◌, ◌≡◌, ◌++◌, ap, sym, List, ℕ, length, take, Bool}
use Rattle.std.proofs.lemmas.Result.{on_ok_weaker}
use Rattle.std.specs.List.{flat_map}
use Rattle.page_text.specs.Parts.{Part, with_part, with_parts}
use Rattle.day_tables.specs.Parts.{plain_part}
use Rattle.day_sections.proofs.Walks.{in_frame, in_turn}
use Rattle.recipient_sections.specs.Asked.{name_parts}
use Rattle.request_sections.specs.declared.template.TheConstants.{CELL_END, NO_QUOTE}
use Rattle.request_sections.proofs.requests.add_some_silent.Goals as goal

pub returns : goal.returns
returns c =
    on_ok_weaker c.add-2.result
    (in_frame c.args.page.now c.add.new.self c.add_names.new.page c.add-2.new.self (plain_part NO_QUOTE.now) (flat_map (name_parts c.args.participants.now) c.args.silent.now) (plain_part CELL_END.now)
    c.in_ok-add.ensures.added c.in_ok-add_names.ensures)
    c.add-2.ensures.added
