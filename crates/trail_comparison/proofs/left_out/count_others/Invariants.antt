use Rattle.std.proofs.Common.{◌≡◌, ◌≤◌, Some, take}
use Rattle.std.specs.List.{count_by}
use Rattle.trail_comparison.specs.Without.{is_shared}
use Rattle.trail_comparison.proofs.left_out.count_others.Given as goal

abbrev pub invariant-loop-row : goal.invariant-loop-row
invariant-loop-row l = (l.count ≡ count_by (is_shared (Some l.who)) (take l.row-index l.rows)) × (l.count ≤ l.row-index)
