use Rattle.std.proofs.Common.{◌∷◌, [], ◌∙◌, ap}
use Rattle.std.proofs.lemmas.Result.{on_ok_weaker}
use Rattle.page_text.specs.Parts.{with_part}
use Rattle.day_tables.specs.Values.{grouped}
use Rattle.instrument_charts.specs.declared.template.TheConstants.{MORE}
use Rattle.instrument_charts.proofs.ladder.add_more.Goals as goal

pub returns : goal.returns
returns c =
    on_ok_weaker c.add.result
    (λ e. e ∙ (λ j. with_part c.args.page.now (record {
      template = MORE.now;
      values = c.sides_of.ensures j ∷ (c.deref.ensures.value ∙ (c.in_ok-more.ensures ∙ ap grouped c.saturating_sub.ensures)) j ∷ [];
    })))
    c.add.ensures.added
