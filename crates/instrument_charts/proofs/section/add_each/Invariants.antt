use Rattle.std.proofs.Common.{◌≡◌, ◌-◌, length}
use Rattle.page_text.specs.Parts.{with_parts}
use Rattle.day_tables.specs.Parts.{each_from}
use Rattle.instrument_charts.specs.Instruments.{instrument_parts, sheet_of}
use Rattle.instrument_charts.proofs.section.add_each.Given as goal

-- the parts so far, and then those of the others, are all
abbrev pub invariant-loop-instrument : goal.invariant-loop-instrument
invariant-loop-instrument l = with_parts l.page (each_from (instrument_parts l.instruments (sheet_of l.day)) l.instrument (length l.instruments - l.instrument)) ≡ with_parts l.fn.page (each_from (instrument_parts l.instruments (sheet_of l.day)) 0 (length l.instruments))
