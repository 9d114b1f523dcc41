use Rattle.std.proofs.Common.{◌≡◌, ◌+◌, ◌++◌, drop}
use Rattle.venue_main.specs.Serve.{place_lines}
use Rattle.venue_main.proofs.serving.announcement.Given as goal

abbrev pub invariant-loop-k : goal.invariant-loop-k
invariant-loop-k l = l.text.items ++ place_lines (l.port + l.k) (drop l.k l.participants.names) ≡ place_lines l.port l.participants.names
