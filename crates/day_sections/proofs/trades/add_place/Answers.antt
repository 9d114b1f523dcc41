use Rattle.std.proofs.Common.{◌∙◌, ℕ, Option, ap, sym}
use Rattle.std.proofs.lemmas.Result.{on_ok_weaker}
use Rattle.page_text.specs.Parts.{with_part}
use Rattle.day_sections.specs.Trades.{place_part}
use Rattle.day_sections.proofs.trades.add_place.Goals as goal

pub returns-in-Some : goal.returns-in-Some
returns-in-Some c =
    on_ok_weaker c.add_room.result
    (λ h. h ∙ ap (λ (o : Option ℕ). with_part c.args.page.now (place_part o)) (sym c.in-Some.is))
    c.add_room.ensures
