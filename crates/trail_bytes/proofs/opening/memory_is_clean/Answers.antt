use Rattle.trail_bytes.proofs.Opened.{clean}
use Rattle.trail_bytes.proofs.opening.memory_is_clean.Goals as goal

pub returns : goal.returns
returns c = clean c.args.conn.now
