use Rattle.std.proofs.Common.{◌≡◌, ◌+◌, length}
use Rattle.tcp_line.proofs.opening.open_lines.Given as goal

abbrev pub invariant-loop-k : goal.invariant-loop-k
invariant-loop-k g l = (length l.sessions.items ≡ l.k) × (length l.sleepers.items + l.k ≡ l.count)
