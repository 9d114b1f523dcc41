use Rattle.venue_core.proofs.Rows.{emitted_rows}
use Rattle.venue_core.proofs.laws.rows_emit_their_inputs.Goals as goal

pub returns : goal.returns
returns c = emitted_rows c.printed_is_read.ensures.app
