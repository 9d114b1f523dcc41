use Rattle.std.proofs.Common.{◌≡◌, ◌≤◌, ◌-◌, length}
use Rattle.fix_session.specs.Reader.{Reader}
use Rattle.venue_world.specs.Seen.{Shows}
use Rattle.venue_world.specs.World.{WorldState, after_all}
use Rattle.once_session.specs.Stream.{cuts_behind}
use Rattle.once_session.proofs.opening.open_line.Given as goal

abbrev pub invariant-loop-place : goal.invariant-loop-place
invariant-loop-place l = record {
  cut : (r : Reader) (w : WorldState) → Shows l.initial.world w → Shows l.world (after_all r w (cuts_behind (l.place - 1)));
  same : length l.world.sides ≡ length l.initial.world.sides;
  from : 1 ≤ l.place;
  within : l.place ≤ l.count;
}
