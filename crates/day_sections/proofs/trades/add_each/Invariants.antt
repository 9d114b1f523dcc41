use Rattle.std.proofs.Common.{◌≡◌, drop}
use Rattle.std.specs.List.{flat_map}
use Rattle.page_text.specs.Parts.{with_parts}
use Rattle.day_sections.specs.Trades.{sheet_of, trade_parts}
use Rattle.day_sections.proofs.trades.add_each.Given as goal

-- the parts so far, and then those of the others, are all
abbrev pub invariant-loop-trade : goal.invariant-loop-trade
invariant-loop-trade l = with_parts l.page (flat_map (trade_parts (sheet_of l.reported)) (drop l.trade-index l.trades)) ≡ with_parts l.fn.page (flat_map (trade_parts (sheet_of l.reported)) l.trades)
