use Rattle.row_replay.proofs.Theirs.{are_theirs}
use Rattle.row_replay.proofs.laws.rows_have_their_inputs.Goals as goal

pub returns : goal.returns
returns c = are_theirs c.rows_emit_their_inputs.ensures
