use Rattle.std.proofs.Common.{◌∷◌, [], ◌∙◌, ◌≡◌, ◌++◌, ap, sym, List, ℕ, length, take, Bool}
use Rattle.std.proofs.lemmas.Result.{on_ok_weaker}
use Rattle.std.specs.List.{flat_map}
use Rattle.page_text.specs.Parts.{Part, with_part, with_parts}
use Rattle.day_tables.specs.Parts.{plain_part}
use Rattle.day_sections.proofs.Walks.{in_frame, in_turn}
use Rattle.std.specs.Prelude.{filter}
use Rattle.day_events.specs.declared.event.Event.{Event}
use Rattle.request_sections.specs.Picks.{is_silent}
use Rattle.request_sections.specs.Requests.{if_quote_parts, quotes_part, sheet_of, silent_parts}
use Rattle.request_sections.specs.declared.template.TheConstants.{QUOTES, ROOM_END}
use Rattle.request_sections.proofs.requests.add_quotes.Goals as goal

pub returns : goal.returns
returns c =
    let said = c.args.said.now in
    let file = c.args.participants.now in
    let quotes : List Part = flat_map (λ e. if_quote_parts file (sheet_of c.args.day.now) said.tick c.args.axis.now said.events.now said.room e e.what) said.quotes.now in
    let silent : List Part = silent_parts file (filter (is_silent said.quotes.now) said.asked.now) in
    on_ok_weaker c.add-2.result
    (in_frame c.args.page.now c.add.new.self c.add_silent.new.page c.add-2.new.self (quotes_part said.room) (quotes ++ silent) (plain_part ROOM_END.now)
    (c.in_ok-add.ensures.added ∙ (λ j. with_part c.args.page.now (record { template = QUOTES.now; values = (c.deref.ensures.value ∙ c.in_ok-number.ensures) j ∷ [] })))
    (in_turn c.add.new.self c.add_each_quote.new.page c.add_silent.new.page quotes silent c.in_ok-add_each_quote.ensures
    (c.in_ok-add_silent.ensures ∙ ap (λ (l : List Event). with_parts c.add_each_quote.new.page (silent_parts file l)) (c.deref-2.ensures.value ∙ c.in_ok-silent.ensures))))
    c.add-2.ensures.added
