use Rattle.std.proofs.Common.{◌≡◌}
use Rattle.venue_worker.specs.Calls.{IsSameElse}
use Rattle.venue_worker.specs.Shutdown.{AreDrained, AreServedUpTo, AreLookedAt}
use Rattle.venue_worker.proofs.Dismissing.{IsRoundTo}
use Rattle.venue_worker.proofs.worker.Worker.drain_all.Given as goal

abbrev pub invariant-loop-j : goal.invariant-loop-j
invariant-loop-j g l = record { only : IsSameElse l.fn.self l.self; seen_off : AreDrained l.fn.self l.self; served : AreServedUpTo l.j l.fn.self l.self; looked : AreLookedAt l.fn.self l.self; round : IsRoundTo l.j l.fn.may_cut l.moved l.fn.self l.self; clock : g.C.Clock.answered l.clock ≡ g.C.Clock.answered l.fn.clock }
