use Rattle.std.proofs.Common.{◌∷◌, [], ◌∙◌, ap}
use Rattle.std.proofs.lemmas.Result.{on_ok_weaker}
use Rattle.page_text.specs.Parts.{with_part}
use Rattle.day_tables.specs.Values.{grouped}
use Rattle.request_sections.specs.Requests.{hour_text, room_text}
use Rattle.request_sections.specs.declared.template.TheConstants.{HOUR_OF_REQUESTS}
use Rattle.request_sections.proofs.section.add_hour_head.Goals as goal

pub returns : goal.returns
returns c =
    on_ok_weaker c.add.result
    (λ e. e ∙ (λ j. with_part c.args.page.now (record {
      template = HOUR_OF_REQUESTS.now;
      values = (c.deref.ensures.value ∙ (c.in_ok-hour.ensures ∙ ap hour_text c.first.ensures.value)) j ∷ (c.deref-2.ensures.value ∙ c.in_ok-count.ensures) j ∷ (c.deref-3.ensures.value ∙ (c.in_ok-traded.ensures ∙ ap grouped c.count_traded.ensures)) j ∷ (c.deref-4.ensures.value ∙ (c.in_ok-first.ensures ∙ ap room_text c.first-2.ensures.value)) j ∷ (c.deref-5.ensures.value ∙ (c.in_ok-last.ensures ∙ ap room_text c.last.ensures.value)) j ∷ [];
    })))
    c.add.ensures.added
