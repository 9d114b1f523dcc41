use Rattle.std.proofs.Common.{◌≡◌, ◌-◌, length}
use Rattle.page_text.specs.Parts.{with_parts}
use Rattle.day_tables.specs.Parts.{each_from}
use Rattle.day_tables.specs.Bulletin.{traded_parts}
use Rattle.day_tables.proofs.bulletin.add_each.Given as goal

-- the parts so far, and then those of the others, are all
abbrev pub invariant-loop-instrument : goal.invariant-loop-instrument
invariant-loop-instrument l = with_parts l.page (each_from (traded_parts l.instruments l.trades) l.instrument (length l.instruments - l.instrument)) ≡ with_parts l.fn.page (each_from (traded_parts l.instruments l.trades) 0 (length l.instruments))
