use Rattle.std.proofs.Common.{◌∷◌, [], ◌∙◌}
use Rattle.std.proofs.lemmas.Result.{on_ok_weaker}
use Rattle.page_text.specs.Parts.{with_part}
use Rattle.alarm_sections.specs.declared.template.TheConstants.{LINKED_TIMES}
use Rattle.alarm_sections.proofs.linked.add_times.Goals as goal

pub returns : goal.returns
returns c =
    on_ok_weaker c.add.result
    (λ e. e ∙ (λ j. with_part c.args.page.now (record {
      template = LINKED_TIMES.now;
      values = (c.deref.ensures.value ∙ c.in_ok-between.ensures) j ∷ (c.deref-2.ensures.value ∙ c.in_ok-delay.ensures) j ∷ [];
    })))
    c.add.ensures.added
