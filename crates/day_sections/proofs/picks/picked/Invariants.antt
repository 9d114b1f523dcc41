use Rattle.std.proofs.Common.{◌≡◌, ◌++◌, drop, filter}
use Rattle.day_sections.specs.Picks.{is_picked}
use Rattle.day_sections.proofs.picks.picked.Given as goal

-- those that were kept, and then those of the others, are all
abbrev pub invariant-loop-event : goal.invariant-loop-event
invariant-loop-event l = l.kept.items ++ filter (is_picked l.pick) (drop l.event-index l.events) ≡ filter (is_picked l.pick) l.events
