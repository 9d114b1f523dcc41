use Rattle.std.proofs.Common.{◌∙◌, ap, List, Option, ℕ}
use Rattle.std.proofs.lemmas.Result.{on_ok_weaker}
use Rattle.page_text.specs.Parts.{with_part, with_parts}
use Rattle.day_events.specs.declared.event.Event.{Event}
use Rattle.day_tables.specs.Parts.{plain_part}
use Rattle.day_sections.specs.declared.template.TheConstants.{CELL_END}
use Rattle.day_sections.specs.Trades.{deal_part, flag_part, place_part, row_of_part, sheet_of, trade_by}
use Rattle.day_sections.proofs.trades.add_trade.Goals as goal

pub returns : goal.returns
returns c =
    let s = sheet_of c.args.reported.now in
    let t = c.args.trade.now in
    let report = c.report_of-report.result in
    let head = c.in_ok-add_head.ensures in
    let place = c.in_ok-add_place.ensures ∙ ap (λ (x : List ℕ). with_part x (place_part t.room)) head in
    let flag = c.in_ok-add_flag.ensures ∙ (λ j. with_part (place j) (flag_part (c.flag_at-flag.ensures j) t.number)) in
    let deal = c.in_ok-add_deal.ensures ∙ ap (λ (x : List ℕ). with_part x (deal_part s t)) flag in
    let row = c.in_ok-add_row_of.ensures ∙ ap (λ (x : List ℕ). with_part x (row_of_part s.shown report)) deal in
    on_ok_weaker c.add.result
    (λ h. h ∙ (ap (λ (x : List ℕ). with_part x (plain_part CELL_END.now)) row
    ∙ ap (λ (o : Option Event). with_parts c.args.page.now (trade_by s t o)) c.report_of-report.ensures))
    c.add.ensures.added
