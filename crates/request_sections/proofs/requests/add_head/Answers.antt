use Rattle.std.proofs.Common.{◌∷◌, [], ◌∙◌, ◌≡◌, ◌++◌, ap, sym, List, ℕ, length, take, Bool}
use Rattle.std.proofs.lemmas.Result.{on_ok_weaker}
use Rattle.std.specs.List.{flat_map}
use Rattle.page_text.specs.Parts.{Part, with_part, with_parts}
use Rattle.day_tables.specs.Parts.{plain_part}
use Rattle.day_sections.proofs.Walks.{in_frame, in_turn}
use Rattle.request_sections.specs.Requests.{outcome_part, room_part}
use Rattle.request_sections.proofs.requests.add_head.Goals as goal

pub returns : goal.returns
returns c =
    let file = c.args.participants.now in
    let r = c.args.request.now in
    let e = c.args.opened.now in
    let room = c.in_ok-add_room.ensures ∙ (λ j. with_part (c.in_ok-add_opening.ensures j) (room_part file c.args.dated e r (c.many.ensures j))) in
    on_ok_weaker c.add_outcome.result
    (λ h. h ∙ (λ j. with_part (room j) (outcome_part c.args.said.now.tick c.args.trade.now (c.many-2.ensures j))))
    c.add_outcome.ensures
