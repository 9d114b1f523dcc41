use Rattle.std.proofs.Common.{length}
use Rattle.data_dictionary.proofs.lines.+append_rows.Given as goal

abbrev pub decreases-append_rows : goal.decreases-append_rows
decreases-append_rows l = length l.rows.now
