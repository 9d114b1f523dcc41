use Rattle.std.proofs.Common.{◌∷◌, [], ◌∙◌, ◌≡◌, ◌++◌, ap, sym, List, ℕ, length, take, Bool}
use Rattle.std.proofs.lemmas.Result.{on_ok_weaker}
use Rattle.std.specs.List.{flat_map}
use Rattle.page_text.specs.Parts.{Part, with_part, with_parts}
use Rattle.day_tables.specs.Parts.{plain_part}
use Rattle.day_sections.proofs.Walks.{in_frame, in_turn}
use Rattle.day_events.specs.declared.shown.ShownPrice.{ShownPrice}
use Rattle.request_sections.specs.Shown.{more_parts, most_shown, price_parts, word_part}
use Rattle.request_sections.proofs.shown.add_some_prices.Goals as goal

pub returns : goal.returns
returns c =
    let ps = c.args.prices.now in
    let head : Part = word_part c.args.bid in
    on_ok_weaker c.add_more.result
    (λ e. in_turn (with_part c.args.page.now head) c.add_each_price.new.page c.add_more.new.page (flat_map (price_parts c.args.tick) (take most_shown ps)) (more_parts ps)
    (c.in_ok-add_each_price.ensures ∙ (λ j. with_parts (c.in_ok-add_word.ensures j) (flat_map (price_parts c.args.tick) (c.up_to.ensures j)))) e)
    c.add_more.ensures
