use Rattle.std.proofs.Common.{◌≡◌, length}
use Rattle.tcp_line.proofs.opening.make_sleepers.Given as goal

abbrev pub invariant-loop : goal.invariant-loop
invariant-loop g l = length l.sleepers.items ≡ l.counter
