use Rattle.std.specs.List.{flat_map}
use Rattle.std.proofs.lemmas.Result.{on_ok_weaker}
use Rattle.day_tables.specs.Parts.{plain_part}
use Rattle.alarm_sections.specs.declared.template.TheConstants.{LIST_END, TABLE_OF_ALARMS}
use Rattle.alarm_sections.specs.Alarms.{alarm_parts}
use Rattle.day_sections.proofs.Walks.{in_frame}
use Rattle.alarm_sections.proofs.alarms.add_table.Goals as goal

pub returns : goal.returns
returns c =
    on_ok_weaker c.add-2.result
    (in_frame c.args.page.now c.add.new.self c.add_each.new.page c.add-2.new.self (plain_part TABLE_OF_ALARMS.now) (flat_map (alarm_parts c.args.participants.now c.args.linked) c.args.alarms.now) (plain_part LIST_END.now)
    c.in_ok-add.ensures.added c.in_ok-add_each.ensures)
    c.add-2.ensures.added
