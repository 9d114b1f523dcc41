use Rattle.std.proofs.Common.{take}
use Rattle.std.specs.List.{flat_map}
use Rattle.std.specs.Io.KnownBytes.{Appends}
use Rattle.venue_rules.specs.Facts.{History}
use Rattle.venue_core.specs.VenueFacts.{IsHistory}
use Rattle.trade_table.specs.Table.{table_row}
use Rattle.trade_table.proofs.printing.print_rows.Given as goal

abbrev pub invariant-loop-trade : goal.invariant-loop-trade
invariant-loop-trade g l =
    (h : History) → IsHistory l.venue h → Appends (g.W.Write.contents l.initial.writer) (g.W.Write.contents l.writer) (flat_map (table_row l.venue.market h l.executions) (take l.trade-index l.trade-items))
