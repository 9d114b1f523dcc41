use Rattle.std.proofs.Common.{◌<◌}
use Rattle.venue_worker.specs.Calls.{IsSameElse}
use Rattle.venue_worker.specs.Turns.{AreServed}
use Rattle.venue_worker.specs.Shutdown.{AreDrained, AreLookedAt}
use Rattle.venue_worker.proofs.Dismissing.{HasRounded}
use Rattle.venue_worker.proofs.worker.Worker.shut_down.Given as goal

abbrev pub invariant-loop : goal.invariant-loop
invariant-loop g l = record { only : IsSameElse l.fn.self l.self; seen_off : AreDrained l.fn.self l.self; served : 0 < l.counter → AreServed l.fn.self l.self; looked : AreLookedAt l.fn.self l.self; rounded : HasRounded l.counter l.since (g.C.Clock.answered l.fn.clock) (g.C.Clock.answered l.clock) l.fn.self l.self }
