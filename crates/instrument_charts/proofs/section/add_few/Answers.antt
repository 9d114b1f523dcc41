use Rattle.std.specs.List.{flat_map}
use Rattle.std.proofs.lemmas.Result.{on_ok_weaker}
use Rattle.instrument_charts.specs.Lines.{lines_parts}
use Rattle.instrument_charts.specs.Glyphs.{glyph_parts}
use Rattle.instrument_charts.proofs.Walks.{in_turn}
use Rattle.instrument_charts.proofs.section.add_few.Goals as goal

pub returns : goal.returns
returns c =
    let s = c.args.scale.now in
    let shown = c.args.shown.now in
    on_ok_weaker c.add_glyphs.result
    (λ e. in_turn c.args.page.now c.add_lines.new.page c.add_glyphs.new.page (lines_parts s shown.bids.now shown.offers.now) (flat_map (glyph_parts s) shown.deals.now) c.in_ok-add_lines.ensures e)
    c.add_glyphs.ensures
