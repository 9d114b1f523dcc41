use Rattle.std.proofs.Common.{◌≡◌, drop}
use Rattle.std.specs.Prelude.{false}
use Rattle.page_text.specs.Parts.{with_parts}
use Rattle.instrument_charts.specs.Lines.{line_parts}
use Rattle.instrument_charts.proofs.lines.add_line.Given as goal

-- the parts so far, and then those of the others, are all
abbrev pub invariant-loop-point : goal.invariant-loop-point
invariant-loop-point l = with_parts l.page (line_parts l.scale l.drawn (drop l.point-index l.points)) ≡ with_parts l.fn.page (line_parts l.scale false l.points)
