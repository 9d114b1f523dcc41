use Rattle.std.proofs.Common.{◌≡◌, ◌++◌, drop}
use Rattle.instruments.specs.Delays.{with_delays}
use Rattle.instruments.proofs.delays.with_delays.Given as goal

abbrev pub invariant-loop-place : goal.invariant-loop-place
invariant-loop-place l = with_delays l.rows l.delays ≡ l.made.items ++ with_delays (drop l.place l.rows) (drop l.place l.delays)
