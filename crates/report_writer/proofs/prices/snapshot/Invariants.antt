use Rattle.std.proofs.Common.{◌≡◌, map, take}
use Rattle.venue_rules.specs.Messages.{shown_entry}
use Rattle.report_writer.proofs.prices.snapshot.Given as goal

abbrev pub invariant-loop-entry : goal.invariant-loop-entry
invariant-loop-entry l = l.shown.items ≡ map shown_entry (take l.entry-index l.entries)
