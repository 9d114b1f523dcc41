use Rattle.std.proofs.Common.{◌≡◌, ◌++◌}
use Rattle.trail_digest.specs.Comparison.{delay_lines, side_of}
use Rattle.trail_digest.proofs.comparison.append_delay_lines.Given as goal

abbrev pub invariant-loop-x : goal.invariant-loop-x
invariant-loop-x l = l.text.items ≡ l.fn.text.items ++ delay_lines (side_of l.a) (side_of l.b) l.x
