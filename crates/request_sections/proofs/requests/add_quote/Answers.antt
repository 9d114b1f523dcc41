use Rattle.std.proofs.Common.{◌∷◌, [], ◌∙◌, ◌≡◌, ◌++◌, ap, sym, List, ℕ, length, take, Bool}
use Rattle.std.proofs.lemmas.Result.{on_ok_weaker}
use Rattle.std.specs.List.{flat_map}
use Rattle.page_text.specs.Parts.{Part, with_part, with_parts}
use Rattle.day_tables.specs.Parts.{plain_part}
use Rattle.day_sections.proofs.Walks.{in_frame, in_turn}
use Rattle.std.specs.Prelude.{filter, ◌%◌}
use Rattle.day_events.specs.declared.event.Event.{Event}
use Rattle.request_sections.specs.declared.fate.Quoted.{Quoted}
use Rattle.request_sections.specs.declared.keys.By.TheVariants as by
use Rattle.request_sections.specs.declared.template.TheConstants.{CELL_END}
use Rattle.request_sections.specs.Keys.{in_bucket, key_of}
use Rattle.request_sections.specs.Lives.{end_part, life_part}
use Rattle.request_sections.specs.Requests.{fate_part}
use Rattle.request_sections.proofs.Covers.{outcome_found, until_found}
use Rattle.day_sections.specs.Values.{row_part}
use Rattle.request_sections.proofs.requests.add_quote.Goals as goal

pub returns : goal.returns
returns c =
    let day = c.args.day.now in
    let said = c.args.said.now in
    let all : List Event = day.events.now in
    let n = length day.ends.now in
    let q : Quoted = record { quote = c.args.quote.now.quote; room = said.room; from = c.args.event.now.at.from; end = c.args.quote.now.end } in
    let filed = c.found-ends.ensures by.Quote all c.requires.kept.ends ∙ ap (λ (k : ℕ). filter (λ e. in_bucket n (k % n) (key_of by.Quote e)) all) c.quote_key.ensures in
    let end = c.outcome_of-end.ensures ∙ outcome_found q day.last n said.events.now all c.found-ends.result.now filed in
    let until = c.live_until-until.ensures ∙ until_found q day.last n said.events.now all c.found-ends.result.now filed in
    let axis = c.args.axis.now in
    let e = c.args.event.now in
    let life = c.in_ok-add_life.ensures ∙ (λ j. with_part (c.in_ok-add_quote_head.ensures j) (life_part axis (c.ms.ensures.value j) (until j) (c.ms-2.ensures.value j))) in
    let head = c.in_ok-add_life_end.ensures ∙ ap (λ (x : List ℕ). with_part x (end_part axis.traded)) life in
    let ended = c.in_ok-add_fate.ensures ∙ (λ j. with_part (head j) (fate_part (end j))) in
    let row = c.in_ok-add_row_number.ensures ∙ ap (λ (x : List ℕ). with_part x (row_part day.linked c.args.event.now.at.row)) ended in
    on_ok_weaker c.add.result (λ h. h ∙ ap (λ (x : List ℕ). with_part x (plain_part CELL_END.now)) row) c.add.ensures.added
