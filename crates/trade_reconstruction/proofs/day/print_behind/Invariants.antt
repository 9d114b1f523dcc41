use Rattle.std.proofs.Common.{take}
use Rattle.std.specs.List.{flat_map}
use Rattle.std.specs.Io.KnownBytes.{Appends}
use Rattle.trade_reconstruction.specs.Emitted.{evidence_behind}
use Rattle.trade_reconstruction.proofs.day.print_behind.Given as goal

abbrev pub invariant-loop-trade : goal.invariant-loop-trade
invariant-loop-trade g l = Appends (g.W.Write.contents l.initial.writer) (g.W.Write.contents l.writer) (flat_map (evidence_behind l.venue.market l.rows l.day.words l.day.notes.items) (take l.trade-index l.trades))
