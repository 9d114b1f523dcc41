use Rattle.std.proofs.Common.{◌∷◌, [], ◌∙◌, ◌≡◌, ◌++◌, ap, sym, List, ℕ, length, take, Bool}
use Rattle.std.proofs.lemmas.Result.{on_ok_weaker}
use Rattle.std.specs.List.{flat_map}
use Rattle.page_text.specs.Parts.{Part, with_part, with_parts}
use Rattle.day_tables.specs.Parts.{plain_part}
use Rattle.day_sections.proofs.Walks.{in_frame, in_turn}
use Rattle.day_events.specs.declared.shown.ShownPrice.{ShownPrice}
use Rattle.request_sections.specs.Shown.{on_side, side_parts}
use Rattle.std.proofs.Common.{false, true}
use Rattle.request_sections.proofs.shown.add_both.Goals as goal

pub returns : goal.returns
returns c =
    let ps = c.args.prices.now in
    on_ok_weaker c.add_side-2.result
    (λ e. in_turn c.args.page.now c.add_side.new.page c.add_side-2.new.page (side_parts c.args.tick true (on_side true ps)) (side_parts c.args.tick false (on_side false ps))
    (c.in_ok-add_side.ensures ∙ ap (λ (l : List ShownPrice). with_parts c.args.page.now (side_parts c.args.tick true l)) (c.deref.ensures.value ∙ c.in_ok-bids.ensures))
    (e ∙ ap (λ (l : List ShownPrice). with_parts c.add_side.new.page (side_parts c.args.tick false l)) (c.deref-2.ensures.value ∙ c.in_ok-offers.ensures)))
    c.add_side-2.ensures
