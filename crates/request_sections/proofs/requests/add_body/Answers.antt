use Rattle.std.proofs.Common.{◌∷◌, [], ◌∙◌, ◌≡◌, ◌++◌, ap, sym, List, ℕ, length, take, Bool}
use Rattle.std.proofs.lemmas.Result.{on_ok_weaker}
use Rattle.std.specs.List.{flat_map}
use Rattle.page_text.specs.Parts.{Part, with_part, with_parts}
use Rattle.day_tables.specs.Parts.{plain_part}
use Rattle.day_sections.proofs.Walks.{in_frame, in_turn}
use Rattle.std.specs.Prelude.{Option}
use Rattle.request_sections.specs.declared.lives.Axis.{Axis}
use Rattle.request_sections.specs.Lives.{axis_of}
use Rattle.request_sections.specs.Requests.{all_quotes, sheet_of, trade_moment}
use Rattle.recipient_sections.specs.Asked.{recipients_parts}
use Rattle.request_sections.specs.Refused.{refused_in, refused_section}
use Rattle.request_sections.specs.Shown.{shown_section}
use Rattle.request_sections.proofs.requests.add_body.Goals as goal

pub returns : goal.returns
returns c =
    let said = c.args.said.now in
    let day = c.args.day.now in
    let file = c.args.participants.now in
    let asked : List Part = recipients_parts file day.linked c.args.opened.now said.room said.asked.now in
    let shown : List Part = shown_section said.tick day.shown.now said.quotes.now in
    let refused : List Part = refused_section file day.dated day.linked (refused_in c.args.opened.now.at.row said.room said.quotes.now day.events.now) in
    let start = c.args.opened.now.at.moment in
    let line = axis_of start (trade_moment said.room said.events.now) said.quotes.now in
    let same : c.axis_of-axis.result ≡ line = c.axis_of-axis.ensures ∙ (λ j. axis_of (c.ms.ensures.value j) (c.trade_moment-hit.ensures j) said.quotes.now) in
    let all : List Part = all_quotes file (sheet_of day) said.tick line said.events.now said.room said.asked.now said.quotes.now in
    on_ok_weaker c.add_quotes.result
    (λ h. in_turn c.args.page.now c.add_recipients.new.page c.add_quotes.new.page asked (shown ++ (refused ++ all)) c.in_ok-add_recipients.ensures
    (in_turn c.add_recipients.new.page c.add_shown.new.page c.add_quotes.new.page shown (refused ++ all) c.in_ok-add_shown.ensures
    (in_turn c.add_shown.new.page c.add_refusals_in.new.page c.add_quotes.new.page refused all c.in_ok-add_refusals_in.ensures (h ∙ ap (λ (a : Axis). with_parts c.add_refusals_in.new.page (all_quotes file (sheet_of day) said.tick a said.events.now said.room said.asked.now said.quotes.now)) same))))
    c.add_quotes.ensures
