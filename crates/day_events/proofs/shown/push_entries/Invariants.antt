use Rattle.std.proofs.Common.{◌≡◌, ◌++◌, map, take}
use Rattle.day_events.specs.ShownPrices.{shown_entry}
use Rattle.day_events.proofs.shown.push_entries.Given as goal

abbrev pub invariant-loop-entry : goal.invariant-loop-entry
invariant-loop-entry l = l.shown.items ≡ l.fn.shown.items ++ map (shown_entry l.row l.to) (take l.entry-index l.entries)
