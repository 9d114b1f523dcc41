use Rattle.std.proofs.Common.{◌≡◌, ◌++◌, take}
use Rattle.std.specs.List.{flat_map}
use Rattle.fix_session.specs.Reader.{Reader}
use Rattle.frame_explanation.specs.Summary.{faults_of}
use Rattle.frame_explanation.proofs.summary.append_faults.Given as goal

abbrev pub invariant-loop-one : goal.invariant-loop-one
invariant-loop-one l = (r : Reader) → l.out.items ≡ l.fn.out.items ++ flat_map (faults_of r l.names) (take l.one-index l.heard)
