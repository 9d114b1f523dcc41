use Rattle.std.proofs.lemmas.Result.{on_ok_weaker}
use Rattle.day_tables.specs.Parts.{plain_part}
use Rattle.day_sections.specs.Values.{row_part}
use Rattle.cross_sections.specs.declared.template.TheConstants.{CELL_END, ITS_ROWS}
use Rattle.cross_sections.specs.Section.{cross_part, end_parts, end_row, setting_of, sides_part}
use Rattle.cross_sections.proofs.Lines.{line_is}
use Rattle.cross_sections.proofs.section.add_line.Goals as goal

pub returns : goal.returns
returns c =
    let f = setting_of c.args.form.now in
    let x = c.args.cross.now in
    on_ok_weaker c.add-2.result
    (line_is c.args.page.now c.add_cross.new.page c.add_sides.new.page c.add_end_words.new.page c.add.new.self c.add_row_number.new.page c.add_end_row.new.page c.add-2.new.self
    (cross_part f.market x) (sides_part f.dated x) (plain_part ITS_ROWS.now) (row_part f.shown x.row) (plain_part CELL_END.now) (end_parts x.end) (end_row f.shown x.end)
    c.in_ok-add_cross.ensures c.in_ok-add_sides.ensures c.in_ok-add_end_words.ensures c.in_ok-add.ensures.added c.in_ok-add_row_number.ensures c.in_ok-add_end_row.ensures)
    c.add-2.ensures.added
