use Rattle.std.specs.List.{flat_map}
use Rattle.std.proofs.lemmas.Result.{on_ok_weaker}
use Rattle.day_tables.specs.Parts.{plain_part}
use Rattle.alarm_sections.specs.declared.template.TheConstants.{LIST_END, TABLE_OF_LINKED}
use Rattle.alarm_sections.specs.Linked.{linked_parts}
use Rattle.day_sections.proofs.Walks.{in_frame}
use Rattle.alarm_sections.proofs.linked.add_table.Goals as goal

pub returns : goal.returns
returns c =
    on_ok_weaker c.add-2.result
    (in_frame c.args.page.now c.add.new.self c.add_each.new.page c.add-2.new.self (plain_part TABLE_OF_LINKED.now) (flat_map (linked_parts c.args.lines.now.participants.now c.args.lines.now.shown c.args.lines.now.dated) c.args.trades.now) (plain_part LIST_END.now)
    c.in_ok-add.ensures.added c.in_ok-add_each.ensures)
    c.add-2.ensures.added
