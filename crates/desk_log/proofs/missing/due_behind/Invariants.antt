use Rattle.std.proofs.Common.{◌≡◌, drop}
use Rattle.desk_log.specs.Missing.{due_behind}
use Rattle.desk_log.proofs.missing.due_behind.Given as goal

abbrev pub invariant-loop-frame : goal.invariant-loop-frame
invariant-loop-frame l = due_behind l.era l.due (drop l.frame-index l.frames) ≡ due_behind l.era l.n l.frames
