use Rattle.std.proofs.Common.{◌≡◌, drop}
use Rattle.trail_comparison.specs.Sent.{are_same}
use Rattle.trail_comparison.proofs.sent.are_same.Given as goal

abbrev pub invariant-loop-k : goal.invariant-loop-k
invariant-loop-k l = are_same l.names.a.now l.names.b.now (drop l.k l.replies) (drop l.k l.others) ≡ are_same l.names.a.now l.names.b.now l.replies l.others
