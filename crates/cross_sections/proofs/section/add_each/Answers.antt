use Rattle.std.specs.List.{flat_map}
use Rattle.page_text.specs.Parts.{with_parts}
use Rattle.cross_sections.specs.Section.{line_parts, setting_of}
use Rattle.day_sections.proofs.Walks.{goes_on, goes_out}
use Rattle.cross_sections.proofs.section.add_each.Goals as goal

pub loop-cross-preserved : goal.loop-cross-preserved
loop-cross-preserved c =
    goes_on (line_parts (setting_of c.args.form.now)) c.args.crosses.now c.loop-cross.cross-index c.cross-item.result c.loop-cross.page c.add_line.new.page (with_parts c.args.page.now (flat_map (line_parts (setting_of c.args.form.now)) c.args.crosses.now))
    c.loop-cross-test.true c.cross-item.is c.in_ok-add_line.ensures c.loop-cross.invariant

pub returns : goal.returns
returns c = goes_out (line_parts (setting_of c.args.form.now)) c.args.crosses.now c.loop-cross.cross-index c.loop-cross.page (with_parts c.args.page.now (flat_map (line_parts (setting_of c.args.form.now)) c.args.crosses.now)) c.loop-cross-test.false c.loop-cross.invariant
