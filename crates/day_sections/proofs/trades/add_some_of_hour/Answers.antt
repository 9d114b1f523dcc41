use Rattle.std.proofs.Common.{length}
use Rattle.std.proofs.lemmas.Result.{on_ok_weaker}
use Rattle.day_sections.specs.declared.template.TheConstants.{HOUR}
use Rattle.day_sections.specs.Trades.{end_part, hour_part, sheet_of, table_parts}
use Rattle.day_sections.proofs.Walks.{in_frame}
use Rattle.day_sections.proofs.trades.add_some_of_hour.Goals as goal

pub returns : goal.returns
returns c =
    let r = c.args.reported.now in
    let h = c.args.hour.now in
    on_ok_weaker c.add_end.result
    (in_frame c.args.page.now c.add_hour_head.new.page c.add_table.new.page c.add_end.new.page (hour_part HOUR.now r.reports.now h.all.now) (table_parts (sheet_of r) h.listed.now) (end_part (length h.all.now) (length h.listed.now))
    c.in_ok-add_hour_head.ensures c.in_ok-add_table.ensures)
    c.add_end.ensures
