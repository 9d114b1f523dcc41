use Rattle.std.proofs.Common.{◌∙◌, ap, List, ℕ}
use Rattle.std.proofs.lemmas.Result.{on_ok_weaker}
use Rattle.page_text.specs.Parts.{with_part}
use Rattle.day_tables.specs.Parts.{plain_part}
use Rattle.alarm_sections.specs.declared.template.TheConstants.{CELL_END}
use Rattle.alarm_sections.specs.Linked.{held_part, pair_part, times_part}
use Rattle.day_sections.specs.Values.{row_part}
use Rattle.alarm_sections.proofs.linked.add_one.Goals as goal

pub returns : goal.returns
returns c =
    let t = c.args.trade.now in
    let pair = c.in_ok-add_pair.ensures ∙ ap (λ (x : List ℕ). with_part x (pair_part c.args.lines.now.participants.now c.args.lines.now.dated t)) c.in_ok-add_trade_number.ensures in
    let held = c.in_ok-add_held.ensures ∙ ap (λ (x : List ℕ). with_part x (held_part t.is_held)) pair in
    let times = c.in_ok-add_times.ensures ∙ ap (λ (x : List ℕ). with_part x (times_part t)) held in
    let first = c.in_ok-add_row_number.ensures ∙ ap (λ (x : List ℕ). with_part x (row_part c.args.lines.now.shown t.first.row)) times in
    let second = c.in_ok-add_row_number-2.ensures ∙ ap (λ (x : List ℕ). with_part x (row_part c.args.lines.now.shown t.second.row)) first in
    on_ok_weaker c.add.result
    (λ h. h ∙ ap (λ (x : List ℕ). with_part x (plain_part CELL_END.now)) second)
    c.add.ensures.added
