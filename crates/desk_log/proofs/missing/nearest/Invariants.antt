use Rattle.std.proofs.Common.{◌≡◌, drop, None}
use Rattle.desk_log.specs.Missing.{nearest}
use Rattle.desk_log.proofs.missing.nearest.Given as goal

abbrev pub invariant-loop-frame : goal.invariant-loop-frame
invariant-loop-frame l = nearest l.era l.n l.found (drop l.frame-index l.frames) ≡ nearest l.era l.n None l.frames
