use Rattle.std.proofs.Common.{◌≡◌, drop}
use Rattle.std.specs.List.{flat_map}
use Rattle.page_text.specs.Parts.{with_parts}
use Rattle.instrument_charts.specs.Glyphs.{glyph_parts}
use Rattle.instrument_charts.proofs.glyphs.add_glyphs.Given as goal

-- the parts so far, and then those of the others, are all
abbrev pub invariant-loop-deal : goal.invariant-loop-deal
invariant-loop-deal l = with_parts l.page (flat_map (glyph_parts l.scale) (drop l.deal-index l.deals)) ≡ with_parts l.fn.page (flat_map (glyph_parts l.scale) l.deals)
