use Rattle.std.proofs.Common.{◌≡◌, ◌++◌, drop}
use Rattle.unrelated_recipients.specs.Pairs.{related_pairs}
use Rattle.unrelated_recipients.proofs.pairs.related_pairs.Given as goal

abbrev pub invariant-loop-place : goal.invariant-loop-place
invariant-loop-place l = l.pairs.items ++ related_pairs l.participants (drop l.place l.named) ≡ related_pairs l.participants l.named
