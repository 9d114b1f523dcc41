use Rattle.std.proofs.Common.{◌∷◌, [], ◌∙◌, ◌≡◌, ◌++◌, ap, sym, List, ℕ, length, take, Bool}
use Rattle.std.proofs.lemmas.Result.{on_ok_weaker}
use Rattle.std.specs.List.{flat_map}
use Rattle.page_text.specs.Parts.{Part, with_part, with_parts}
use Rattle.day_tables.specs.Parts.{plain_part}
use Rattle.day_sections.proofs.Walks.{in_frame, in_turn}
use Rattle.std.specs.Prelude.{is_some}
use Rattle.request_sections.proofs.Covers.{trade_found}
use Rattle.request_sections.proofs.section.traded_in.Goals as goal

pub returns : goal.returns
returns c =
    let day = c.args.day.now in
    c.is_some.ensures ∙ ap is_some (c.trade_in.ensures ∙ trade_found (length day.rooms.now) c.args.room day.events.now c.said_of.result.now c.said_of.ensures)
