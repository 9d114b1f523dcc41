use Rattle.std.proofs.Common.{◌≡◌, ◌++◌, take}
use Rattle.std.specs.List.{flat_map}
use Rattle.day_events.specs.Events.{reported}
use Rattle.day_events.proofs.reporting.push_all_reported.Given as goal

abbrev pub invariant-loop-reply : goal.invariant-loop-reply
invariant-loop-reply l = l.events.items ≡ l.fn.events.items ++ flat_map (reported l.origin) (take l.reply-index l.replies)
