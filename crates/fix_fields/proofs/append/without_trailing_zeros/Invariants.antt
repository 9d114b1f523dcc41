use Rattle.std.proofs.Common.{◌≡◌, ◌≤◌, take, length}
use Rattle.fix_fields.specs.Forms.{without_trailing_zeros}
use Rattle.fix_fields.proofs.append.without_trailing_zeros.Given as goal

abbrev pub invariant-loop-kept : goal.invariant-loop-kept
invariant-loop-kept l = record {
  within : l.kept ≤ length l.digits;
  same : without_trailing_zeros (take l.kept l.digits) ≡ without_trailing_zeros l.digits;
}

abbrev pub decreases-loop-kept : goal.decreases-loop-kept
decreases-loop-kept l = l.kept
