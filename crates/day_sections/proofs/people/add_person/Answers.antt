use Rattle.std.proofs.Common.{◌∙◌, ap, List, ℕ}
use Rattle.std.proofs.lemmas.Result.{on_ok_weaker}
use Rattle.page_text.specs.Parts.{with_part}
use Rattle.day_sections.specs.People.{quoted_part, traded_part}
use Rattle.day_sections.proofs.people.add_person.Goals as goal

pub returns : goal.returns
returns c =
    let k = c.args.kept.now in
    let traded = c.in_ok-add_traded.ensures ∙ ap (λ (x : List ℕ). with_part x (traded_part k.trades.now k.rooms.now k.deeds.now c.args.place)) c.in_ok-add_sent.ensures in
    on_ok_weaker c.add_quoted.result
    (λ h. h ∙ ap (λ (x : List ℕ). with_part x (quoted_part k.events.now k.deeds.now c.args.place)) traded)
    c.add_quoted.ensures
