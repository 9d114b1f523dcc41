use Rattle.std.proofs.Common.{◌∙◌, ap, get_or, List}
use Rattle.std.proofs.lemmas.List.{get_or_default}
use Rattle.std.specs.List.{flat_map}
use Rattle.page_text.specs.Parts.{with_parts}
use Rattle.day_events.specs.declared.event.Event.{Event}
use Rattle.day_sections.specs.declared.folds.Fold.{Fold}
use Rattle.day_sections.specs.Folds.{fold, within}
use Rattle.request_sections.specs.Requests.{hour_parts, sheet_of}
use Rattle.day_sections.proofs.Walks.{goes_on, goes_out}
use Rattle.request_sections.proofs.section.add_each_hour.Goals as goal

pub loop-fold-preserved : goal.loop-fold-preserved
loop-fold-preserved c =
    let parts = λ (f : Fold). hour_parts c.args.participants.now (sheet_of c.args.day.now) (within f c.args.rooms.now) in
    let f = get_or c.args.folds.now c.loop-fold.fold-index (fold 0 0) in
    goes_on parts c.args.folds.now c.loop-fold.fold-index f c.loop-fold.page c.add_hour.new.page (with_parts c.args.page.now (flat_map parts c.args.folds.now))
    c.loop-fold-test.true (get_or_default c.args.folds.now c.loop-fold.fold-index (fold 0 0) f c.loop-fold-test.true)
    (c.in_ok-add_hour.ensures ∙ ap (λ (l : List Event). with_parts c.loop-fold.page (hour_parts c.args.participants.now (sheet_of c.args.day.now) l)) c.within.ensures)
    c.loop-fold.invariant

pub returns : goal.returns
returns c =
    let parts = λ (f : Fold). hour_parts c.args.participants.now (sheet_of c.args.day.now) (within f c.args.rooms.now) in
    goes_out parts c.args.folds.now c.loop-fold.fold-index c.loop-fold.page (with_parts c.args.page.now (flat_map parts c.args.folds.now)) c.loop-fold-test.false c.loop-fold.invariant
