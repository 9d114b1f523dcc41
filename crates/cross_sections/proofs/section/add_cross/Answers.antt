use Rattle.std.proofs.Common.{◌∷◌, [], ◌∙◌, ap}
use Rattle.std.proofs.lemmas.Result.{on_ok_weaker}
use Rattle.page_text.specs.Parts.{with_part}
use Rattle.day_tables.specs.Values.{grouped}
use Rattle.cross_sections.specs.declared.template.TheConstants.{CROSS}
use Rattle.cross_sections.proofs.section.add_cross.Goals as goal

pub returns : goal.returns
returns c =
    on_ok_weaker c.add.result
    (λ e. e ∙ (λ j. with_part c.args.page.now (record {
      template = CROSS.now;
      values = (c.deref.ensures.value ∙ c.in_ok-row.ensures) j ∷ c.as_slice.ensures.value j ∷ c.name_at-name.ensures j ∷ c.as_slice-2.ensures.value j
          ∷ (c.deref-2.ensures.value ∙ (c.in_ok-quantity.ensures ∙ ap grouped c.get.ensures.value)) j ∷ (c.deref-3.ensures.value ∙ c.in_ok-price.ensures) j ∷ [];
    })))
    c.add.ensures.added
