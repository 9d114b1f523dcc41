use Rattle.std.proofs.Common.{◌++◌}
use Rattle.fix_validation.specs.Tables.{header_rows, rows_of}
use Rattle.fix_validation.specs.Positions.{places}
use Rattle.fix_decoder.proofs.TableLemmas.{own_forms, own_first}
use Rattle.fix_decoder.proofs.PlaceLemmas.{outside_holds}
use Rattle.fix_decoder.proofs.reading.grouped_message.Goals as goal

pub header-requires : goal.header-requires
header-requires c =
    let rows = rows_of c.args.kind 0 in
    rw (c.deref.ensures, rw c.in_ok-outside.was at c.part.ensures)
    (outside_holds header_rows rows (places c.args.located.now) c.requires.clean (own_first (header_rows ++ rows) header_rows rows (own_forms c.args.kind 0)))
