use Rattle.std.proofs.Common.{◌∷◌, [], ◌∙◌, ◌≡◌, ◌++◌, ap, sym, List, ℕ, length, take, Bool}
use Rattle.std.proofs.lemmas.Result.{on_ok_weaker}
use Rattle.std.specs.List.{flat_map}
use Rattle.page_text.specs.Parts.{Part, with_part, with_parts}
use Rattle.day_tables.specs.Parts.{plain_part}
use Rattle.day_sections.proofs.Walks.{in_frame, in_turn}
use Rattle.std.specs.Prelude.{filter, ◌%◌}
use Rattle.request_sections.specs.declared.keys.By.TheVariants as by
use Rattle.request_sections.specs.Keys.{in_bucket, key_of}
use Rattle.request_sections.proofs.requests.said_of.Goals as goal

pub returns : goal.returns
returns c =
    let day = c.args.day.now in
    let n = length day.rooms.now in
    c.found.ensures by.Room day.events.now c.requires.kept.rooms ∙ ap (λ (k : ℕ). filter (λ e. in_bucket n (k % n) (key_of by.Room e)) day.events.now) c.room_key.ensures
