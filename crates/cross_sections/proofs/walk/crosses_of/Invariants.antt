use Rattle.std.proofs.Common.{◌≡◌, List, drop}
use Rattle.venue_core.specs.Replay.{AreEmitted}
use Rattle.venue_rules.specs.Run.{Input}
use Rattle.cross_sections.specs.Crosses.{start, walk_of, walked}
use Rattle.cross_sections.proofs.walk.crosses_of.Given as goal

-- the events so far, and then the others, are all
abbrev pub invariant-loop-event : goal.invariant-loop-event
invariant-loop-event l = (read : List Input) → AreEmitted l.rows read → walked l.instruments read (drop l.event-index l.events) (walk_of l.walk) ≡ walked l.instruments read l.events start
