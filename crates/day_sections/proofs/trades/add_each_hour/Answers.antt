use Rattle.std.proofs.Common.{◌∙◌, get_or}
use Rattle.std.proofs.lemmas.List.{get_or_default}
use Rattle.day_sections.specs.Folds.{fold}
use Rattle.std.specs.List.{flat_map}
use Rattle.page_text.specs.Parts.{with_parts}
use Rattle.day_sections.specs.Trades.{fold_parts, hour_parts, sheet_of}
use Rattle.day_sections.proofs.Walks.{goes_on, goes_out}
use Rattle.day_sections.proofs.trades.add_each_hour.Goals as goal

pub loop-fold-preserved : goal.loop-fold-preserved
loop-fold-preserved c =
    let a = c.args in
    let s = sheet_of a.reported.now in
    let d = a.day.now in
    let parts = fold_parts s d.all.now d.listed.now in
    let i = c.loop-fold.fold-index in
    let f = get_or d.folds.now i (fold 0 0) in
    goes_on parts d.folds.now i f c.loop-fold.page c.add_hour.new.page (with_parts a.page.now (flat_map parts d.folds.now))
    c.loop-fold-test.true (get_or_default d.folds.now i (fold 0 0) f c.loop-fold-test.true)
    (c.in_ok-add_hour.ensures ∙ (λ j. with_parts c.loop-fold.page (hour_parts s (c.within-all.ensures j) (c.within-listed.ensures j))))
    c.loop-fold.invariant

pub returns : goal.returns
returns c =
    let a = c.args in
    let s = sheet_of a.reported.now in
    let d = a.day.now in
    let parts = fold_parts s d.all.now d.listed.now in
    goes_out parts d.folds.now c.loop-fold.fold-index c.loop-fold.page (with_parts a.page.now (flat_map parts d.folds.now)) c.loop-fold-test.false c.loop-fold.invariant
