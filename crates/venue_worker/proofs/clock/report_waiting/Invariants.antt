use Rattle.std.proofs.Common.{◌≡◌}
use Rattle.venue_worker.proofs.clock.report_waiting.Given as goal

abbrev pub invariant-loop-participant : goal.invariant-loop-participant
invariant-loop-participant g l = g.C.Clock.answered l.clock ≡ g.C.Clock.answered l.initial.clock
