use Rattle.std.proofs.Common.{◌≡◌, ◌∙◌, ap, drop, List}
use Rattle.std.specs.List.{flat_map}
use Rattle.page_text.specs.Parts.{with_parts}
use Rattle.day_events.specs.declared.event.Event.{Event}
use Rattle.day_sections.specs.declared.folds.Fold.{Fold}
use Rattle.day_sections.specs.Folds.{within}
use Rattle.request_sections.specs.Requests.{hour_parts, sheet_of}
use Rattle.std.proofs.lemmas.Result.{on_ok_weaker}
use Rattle.request_sections.proofs.section.add_by_hour.Goals as goal

pub returns : goal.returns
returns c =
    on_ok_weaker c.add_each_hour.result
    (λ e. e ∙ ap (λ (l : List Fold). with_parts c.args.page.now (flat_map (λ f. hour_parts c.args.participants.now (sheet_of c.args.day.now) (within f c.args.rooms.now)) l)) (c.deref.ensures.value ∙ c.in_ok-folds.ensures))
    c.add_each_hour.ensures
