use Rattle.std.proofs.Common.{◌≡◌, ◌∙◌, ap, drop, List}
use Rattle.std.specs.List.{flat_map}
use Rattle.page_text.specs.Parts.{with_parts}
use Rattle.day_events.specs.declared.event.Event.{Event}
use Rattle.day_sections.specs.declared.folds.Fold.{Fold}
use Rattle.day_sections.specs.Folds.{within}
use Rattle.request_sections.specs.Requests.{hour_parts, sheet_of}
use Rattle.request_sections.proofs.section.add_each_hour.Given as goal

-- the parts so far, and then those of the other hours, are all
abbrev pub invariant-loop-fold : goal.invariant-loop-fold
invariant-loop-fold l = with_parts l.page (flat_map (λ (f : Fold). hour_parts l.participants (sheet_of l.day) (within f l.rooms)) (drop l.fold-index l.folds)) ≡ with_parts l.fn.page (flat_map (λ (f : Fold). hour_parts l.participants (sheet_of l.day) (within f l.rooms)) l.folds)
