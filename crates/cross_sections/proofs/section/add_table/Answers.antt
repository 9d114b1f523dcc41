use Rattle.std.specs.List.{flat_map}
use Rattle.std.proofs.lemmas.Result.{on_ok_weaker}
use Rattle.day_tables.specs.Parts.{plain_part}
use Rattle.cross_sections.specs.declared.template.TheConstants.{LIST_END, TABLE_OF_CROSSES}
use Rattle.cross_sections.specs.Section.{line_parts, setting_of}
use Rattle.day_sections.proofs.Walks.{in_frame}
use Rattle.cross_sections.proofs.section.add_table.Goals as goal

pub returns : goal.returns
returns c =
    on_ok_weaker c.add-2.result
    (in_frame c.args.page.now c.add.new.self c.add_each.new.page c.add-2.new.self (plain_part TABLE_OF_CROSSES.now) (flat_map (line_parts (setting_of c.args.form.now)) c.args.crosses.now) (plain_part LIST_END.now)
    c.in_ok-add.ensures.added c.in_ok-add_each.ensures)
    c.add-2.ensures.added
