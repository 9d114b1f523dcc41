use Rattle.std.proofs.Common.{◌≡◌, take, map}
use Rattle.day_sections.specs.Reports.{report_of}
use Rattle.day_sections.specs.Trades.{hour_at}
use Rattle.day_sections.proofs.trades.hours_of.Given as goal

-- the hours of the trades so far
abbrev pub invariant-loop-trade : goal.invariant-loop-trade
invariant-loop-trade l = l.hours.items ≡ map (λ t. hour_at (report_of l.reports t.number)) (take l.trade-index l.trades)
