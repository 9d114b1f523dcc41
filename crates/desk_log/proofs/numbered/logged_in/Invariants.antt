use Rattle.std.proofs.Common.{◌≡◌, ◌++◌, drop}
use Rattle.desk_log.specs.Numbered.{logged_in}
use Rattle.desk_log.proofs.numbered.logged_in.Given as goal

abbrev pub invariant-loop-frame : goal.invariant-loop-frame
invariant-loop-frame l = l.logged.items ++ logged_in (drop l.frame-index l.frames) ≡ logged_in l.frames
