use Rattle.std.proofs.Common.{◌∷◌, [], ◌∙◌, ap}
use Rattle.std.proofs.lemmas.Result.{on_ok_weaker}
use Rattle.page_text.specs.Parts.{with_part}
use Rattle.day_tables.specs.Values.{grouped}
use Rattle.rule_counts.specs.declared.template.TheConstants.{RULES_END}
use Rattle.rule_counts.proofs.rules.add_book.Goals as goal

pub returns : goal.returns
returns c =
    on_ok_weaker c.add.result
    (λ e. e ∙ (λ j. with_part c.args.page.now (record { template = RULES_END.now; values = (c.deref.ensures.value ∙ (c.in_ok-book.ensures ∙ ap grouped c.number.ensures)) j ∷ [] })))
    c.add.ensures.added
