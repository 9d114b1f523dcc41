use Rattle.std.proofs.Common.{◌∙◌}
use Rattle.std.specs.List.{flat_map}
use Rattle.std.proofs.lemmas.Result.{on_ok_weaker}
use Rattle.page_text.specs.Parts.{with_parts}
use Rattle.day_sections.specs.Trades.{fold_parts, sheet_of}
use Rattle.day_sections.proofs.trades.add_by_hour.Goals as goal

pub returns : goal.returns
returns c =
    let a = c.args in
    on_ok_weaker c.add_each_hour.result
    (λ h. h ∙ (λ j. with_parts a.page.now (flat_map (fold_parts (sheet_of a.reported.now) a.trades.now (c.up_to.ensures j)) ((c.deref.ensures.value ∙ c.in_ok-folds.ensures) j))))
    c.add_each_hour.ensures
