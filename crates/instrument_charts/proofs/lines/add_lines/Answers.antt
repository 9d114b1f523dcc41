use Rattle.std.proofs.Common.{List, ◌∷◌, [], ◌++◌, ◌∙◌, ap}
use Rattle.std.specs.Prelude.{None, false}
use Rattle.std.proofs.lemmas.Result.{on_ok_weaker}
use Rattle.page_text.specs.Parts.{with_parts}
use Rattle.day_tables.specs.Parts.{plain_part}
use Rattle.instrument_charts.specs.declared.lines.Point.{Point}
use Rattle.instrument_charts.specs.declared.template.TheConstants.{LINES, LINES_END, OFFERS}
use Rattle.instrument_charts.specs.Lines.{line_parts, spaced}
use Rattle.instrument_charts.proofs.Walks.{in_front, in_turn}
use Rattle.instrument_charts.proofs.lines.add_lines.Goals as goal

pub returns : goal.returns
returns c =
    let s = c.args.scale.now in
    let line = λ (l : List Point). line_parts s false l in
    let bids = line (spaced s None c.args.bids.now) in
    let offers = line (spaced s None c.args.offers.now) in
    let end = plain_part LINES_END.now ∷ [] in
    let last = c.add-3.new.self in
    on_ok_weaker c.add-3.result
    (λ e. in_front c.args.page.now c.add.new.self last (plain_part LINES.now) (bids ++ plain_part OFFERS.now ∷ (offers ++ end)) c.in_ok-add.ensures.added
    (in_turn c.add.new.self c.add_line.new.page last bids (plain_part OFFERS.now ∷ (offers ++ end)) (c.in_ok-add_line.ensures ∙ ap (λ (l : List Point). with_parts c.add.new.self (line l)) (c.deref.ensures.value ∙ c.in_ok-bids.ensures))
    (in_front c.add_line.new.page c.add-2.new.self last (plain_part OFFERS.now) (offers ++ end) c.in_ok-add-2.ensures.added
    (in_turn c.add-2.new.self c.add_line-2.new.page last offers end (c.in_ok-add_line-2.ensures ∙ ap (λ (l : List Point). with_parts c.add-2.new.self (line l)) (c.deref-2.ensures.value ∙ c.in_ok-offers.ensures)) e))))
    c.add-3.ensures.added
