use Rattle.std.proofs.Common.{◌∷◌, [], ◌∙◌, ◌≡◌, ◌++◌, ap, sym, List, ℕ, length, take, Bool}
use Rattle.std.proofs.lemmas.Result.{on_ok_weaker}
use Rattle.std.specs.List.{flat_map}
use Rattle.page_text.specs.Parts.{Part, with_part, with_parts}
use Rattle.day_tables.specs.Parts.{plain_part}
use Rattle.day_sections.proofs.Walks.{in_frame, in_turn}
use Rattle.day_events.specs.declared.shown.ShownPrice.{ShownPrice}
use Rattle.request_sections.specs.Shown.{at_row, prices_parts, with_parts_of}
use Rattle.request_sections.proofs.shown.add_first.Goals as goal

pub returns : goal.returns
returns c =
    let ps = c.args.day.now.shown.now in
    let q = c.args.first.now in
    on_ok_weaker c.add_with.result
    (λ e. in_turn c.args.page.now c.add_prices.new.page c.add_with.new.page (prices_parts c.args.tick (at_row q.at.row ps)) (with_parts_of q.what)
    (c.in_ok-add_prices.ensures ∙ ap (λ (l : List ShownPrice). with_parts c.args.page.now (prices_parts c.args.tick l)) (c.deref.ensures.value ∙ c.in_ok-prices.ensures)) e)
    c.add_with.ensures
