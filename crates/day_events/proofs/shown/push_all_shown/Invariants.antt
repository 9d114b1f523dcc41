use Rattle.std.proofs.Common.{◌≡◌, ◌++◌, take}
use Rattle.std.specs.List.{flat_map}
use Rattle.day_events.specs.ShownPrices.{shown_in}
use Rattle.day_events.proofs.shown.push_all_shown.Given as goal

abbrev pub invariant-loop-reply : goal.invariant-loop-reply
invariant-loop-reply l = l.shown.items ≡ l.fn.shown.items ++ flat_map (shown_in l.row) (take l.reply-index l.replies)
