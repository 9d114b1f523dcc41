use Rattle.std.proofs.Common.{◌∷◌, [], ◌∙◌, ap}
use Rattle.std.proofs.lemmas.Result.{on_ok_weaker}
use Rattle.page_text.specs.Parts.{with_part}
use Rattle.day_tables.specs.Values.{grouped}
use Rattle.rule_counts.specs.Rules.{time_text}
use Rattle.rule_counts.specs.declared.template.TheConstants.{RULES}
use Rattle.rule_counts.proofs.rules.add_counts.Goals as goal

pub returns : goal.returns
returns c =
    on_ok_weaker c.add.result
    (λ e. e ∙ (λ j. with_part c.args.page.now (record {
      template = RULES.now;
      values = (c.deref.ensures.value ∙ c.in_ok-requests.ensures) j ∷ (c.deref-2.ensures.value ∙ (c.in_ok-traded.ensures ∙ ap grouped c.number.ensures)) j
          ∷ (c.deref-3.ensures.value ∙ (c.in_ok-few.ensures ∙ ap grouped c.refused_for.ensures)) j ∷ (c.deref-4.ensures.value ∙ (c.in_ok-related.ensures ∙ ap grouped c.refused_for-2.ensures)) j
          ∷ (c.deref-5.ensures.value ∙ c.in_ok-shown.ensures) j ∷ (c.deref-6.ensures.value ∙ c.in_ok-requests.ensures) j
          ∷ (c.deref-7.ensures.value ∙ c.in_ok-linked.ensures) j ∷ (c.deref-8.ensures.value ∙ (c.in_ok-nearer.ensures ∙ ap grouped c.near.ensures)) j
          ∷ (c.deref-9.ensures.value ∙ (c.in_ok-least.ensures ∙ ap time_text c.least_over.ensures)) j ∷ (c.deref-10.ensures.value ∙ (c.in_ok-recent.ensures ∙ ap grouped c.refused_for-3.ensures)) j
          ∷ (c.deref-11.ensures.value ∙ (c.in_ok-others.ensures ∙ ap grouped c.adjusted.ensures)) j ∷ [];
    })))
    c.add.ensures.added
