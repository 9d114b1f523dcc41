use Rattle.std.proofs.Common.{sym}
use Rattle.report_writer.proofs.Shown.{snapshot-some}
use Rattle.report_writer.proofs.prices.snapshot.Goals as goal

pub returns : goal.returns
returns c = snapshot-some c.args.entries.now c.loop-entry.entry-index c.loop-entry.shown.items c.loop-entry.invariant c.loop-entry-test.false (sym c.if-is_empty.ensures)
