use Rattle.std.proofs.Common.{ap, sym, ◌-◌}
use Rattle.cross_sections.specs.Crosses.{taken_by}
use Rattle.cross_sections.proofs.Readings.{none_is_read, read_is, row_is_read}
use Rattle.cross_sections.proofs.messages.taken_at.Goals as goal

pub returns-in-None : goal.returns-in-None
returns-in-None c = λ read emitted.
    sym (ap taken_by (none_is_read c.args.rows.now read (c.args.number - 1) emitted (sym c.in-None.ensures.row)))

pub returns-in-Some : goal.returns-in-Some
returns-in-Some c = λ read emitted.
    read_is c.one_list.ensures c.item_of.result c.in-Some.row.now read (c.args.number - 1) (row_is_read c.args.rows.now read (c.args.number - 1) c.in-Some.row.now emitted (sym c.in-Some.ensures.row)) c.item_of.ensures
