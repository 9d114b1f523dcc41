use Rattle.std.proofs.Common.{◌∷◌, [], ◌∙◌, ◌≡◌, ◌++◌, ap, sym, List, ℕ, length, take, Bool}
use Rattle.std.proofs.lemmas.Result.{on_ok_weaker}
use Rattle.std.specs.List.{flat_map}
use Rattle.page_text.specs.Parts.{Part, with_part, with_parts}
use Rattle.day_tables.specs.Parts.{plain_part}
use Rattle.day_sections.proofs.Walks.{in_frame, in_turn}
use Rattle.request_sections.specs.Requests.{sheet_of}
use Rattle.request_sections.proofs.Covers.{request_found}
use Rattle.request_sections.proofs.requests.add_found.Goals as goal

pub returns : goal.returns
returns c =
    let day = c.args.day.now in
    on_ok_weaker c.add_request.result
    (λ e. e ∙ ap (λ (l : List Part). with_parts c.args.page.now l) (request_found c.args.participants.now (sheet_of day) (length day.rooms.now) day.events.now c.said_of-said.result.now c.args.opened.now c.args.request.now c.said_of-said.ensures))
    c.add_request.ensures
