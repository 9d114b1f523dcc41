use Rattle.std.proofs.Common.{◌≡◌, take}
use Rattle.trail_answers.specs.Emitted.{IsEmittedOf}
use Rattle.trail_answers.specs.Sought.{seen_of}
use Rattle.trail_answers.proofs.printing.emit_rows.Given as goal

abbrev pub invariant-loop-row : goal.invariant-loop-row
invariant-loop-row g l = (l.venue.items ≡ l.row-index) × IsEmittedOf l.form l.fn.venue.market l.scope (take l.row-index l.rows) l.none (seen_of l.seen) l.venue (g.W.Write.contents l.fn.writer) (g.W.Write.contents l.writer)
