use Rattle.std.proofs.Common.{◌≡◌, drop}
use Rattle.rule_counts.specs.Counts.{least_over}
use Rattle.rule_counts.proofs.counts.least_over.Given as goal

abbrev pub invariant-loop-at : goal.invariant-loop-at
invariant-loop-at l = l.least ≡ least_over (drop l.at l.linked)
