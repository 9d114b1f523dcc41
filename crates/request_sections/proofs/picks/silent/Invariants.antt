use Rattle.std.proofs.Common.{◌≡◌, ◌++◌, drop, filter}
use Rattle.request_sections.specs.Picks.{is_silent}
use Rattle.request_sections.proofs.picks.silent.Given as goal

-- those that were kept, and then those of the others, are all
abbrev pub invariant-loop-event : goal.invariant-loop-event
invariant-loop-event l = l.kept.items ++ filter (is_silent l.quotes) (drop l.event-index l.asked) ≡ filter (is_silent l.quotes) l.asked
