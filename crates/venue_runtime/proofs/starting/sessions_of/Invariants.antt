use Rattle.venue_runtime.specs.Starting.{AreNewSessions}
use Rattle.venue_runtime.proofs.starting.sessions_of.Given as goal

abbrev pub invariant-loop-place : goal.invariant-loop-place
invariant-loop-place l = AreNewSessions l.restarted l.participants l.place l.sessions.items
