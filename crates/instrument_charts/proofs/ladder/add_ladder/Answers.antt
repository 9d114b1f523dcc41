use Rattle.std.proofs.Common.{List, ◌∷◌, [], ◌++◌, ◌∙◌, ap}
use Rattle.std.proofs.lemmas.Result.{on_ok_weaker}
use Rattle.page_text.specs.Parts.{Part, with_parts}
use Rattle.fix_dictionary.specs.declared.values.Side.TheVariants.{Buy, Sell}
use Rattle.day_tables.specs.Parts.{plain_part}
use Rattle.instrument_charts.specs.declared.ladder.Rest.{Rest}
use Rattle.instrument_charts.specs.declared.template.TheConstants.{LADDER, LADDER_END}
use Rattle.instrument_charts.specs.Ladders.{rests_in, side_parts}
use Rattle.instrument_charts.proofs.Walks.{in_front, in_turn}
use Rattle.instrument_charts.proofs.ladder.add_ladder.Goals as goal

pub returns : goal.returns
returns c =
    let x = c.args.instrument in
    let rs = c.args.rests.now in
    let bids : List Part = side_parts c.args.tick Buy (rests_in x Buy rs) in
    let offers : List Part = side_parts c.args.tick Sell (rests_in x Sell rs) in
    let end : List Part = plain_part LADDER_END.now ∷ [] in
    let last = c.add-2.new.self in
    on_ok_weaker c.add-2.result
    (λ e. in_front c.args.page.now c.add.new.self last (plain_part LADDER.now) (bids ++ (offers ++ end)) c.in_ok-add.ensures.added
    (in_turn c.add.new.self c.add_side.new.page last bids (offers ++ end) (c.in_ok-add_side.ensures ∙ ap (λ (l : List Rest). with_parts c.add.new.self (side_parts c.args.tick Buy l)) (c.deref.ensures.value ∙ c.in_ok-bids.ensures))
    (in_turn c.add_side.new.page c.add_side-2.new.page last offers end (c.in_ok-add_side-2.ensures ∙ ap (λ (l : List Rest). with_parts c.add_side.new.page (side_parts c.args.tick Sell l)) (c.deref-2.ensures.value ∙ c.in_ok-offers.ensures)) e)))
    c.add-2.ensures.added
