use Rattle.std.proofs.Common.{◌≡◌, take}
use Rattle.participant_activity.specs.Kept.{activity_of}
use Rattle.participant_activity.specs.Replayed.{IsNoted}
use Rattle.participant_activity.proofs.replaying.replay_rows.Given as goal

abbrev pub invariant-loop-row : goal.invariant-loop-row
invariant-loop-row l = (l.venue.items ≡ l.row-index) × IsNoted (record { participants = l.fn.participants; instruments = l.fn.instruments }) l.who (take l.row-index l.rows) l.venue (activity_of l.activity)
