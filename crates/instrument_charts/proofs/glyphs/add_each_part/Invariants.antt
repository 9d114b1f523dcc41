use Rattle.std.proofs.Common.{◌≡◌, ◌-◌}
use Rattle.page_text.specs.Parts.{with_parts}
use Rattle.day_tables.specs.Parts.{each_from}
use Rattle.instrument_charts.specs.Glyphs.{most_parts, range_parts}
use Rattle.instrument_charts.proofs.glyphs.add_each_part.Given as goal

-- the parts so far, and then those of the others, are all
abbrev pub invariant-loop-part : goal.invariant-loop-part
invariant-loop-part l = with_parts l.page (each_from (range_parts l.scale l.deals) l.part (most_parts - l.part)) ≡ with_parts l.fn.page (each_from (range_parts l.scale l.deals) 0 most_parts)
