use Rattle.std.proofs.Common.{◌≡◌, ◌≤◌, take}
use Rattle.std.specs.List.{count_by}
use Rattle.desk_log.specs.Times.{is_early}
use Rattle.desk_log.proofs.times.count_early.Given as goal

abbrev pub invariant-loop-logged : goal.invariant-loop-logged
invariant-loop-logged l = (l.count ≡ count_by (is_early l.log l.first) (take l.logged-index l.once)) × (l.count ≤ l.logged-index)
