use Rattle.std.proofs.Common.{◌≡◌, drop}
use Rattle.std.specs.List.{flat_map}
use Rattle.page_text.specs.Parts.{with_parts}
use Rattle.instrument_charts.specs.Ladders.{level_parts}
use Rattle.instrument_charts.proofs.ladder.add_levels.Given as goal

-- the parts so far, and then those of the others, are all
abbrev pub invariant-loop-first : goal.invariant-loop-first
invariant-loop-first l = with_parts l.page (flat_map (level_parts l.book.tick l.book.side l.book.rests.now) (drop l.first-index l.levels)) ≡ with_parts l.fn.page (flat_map (level_parts l.book.tick l.book.side l.book.rests.now) l.levels)
