use Rattle.std.proofs.Common.{◌∙◌, ap, List}
use Rattle.std.proofs.lemmas.Result.{on_ok_weaker}
use Rattle.page_text.specs.Parts.{Part, with_parts}
use Rattle.day_sections.proofs.ByCause.{by_refused}
use Rattle.day_sections.proofs.refusals.add_refusals.Goals as goal

pub returns : goal.returns
returns c =
    on_ok_weaker c.add_by_cause.result
    (λ e. e ∙ ap (λ (l : List Part). with_parts c.args.page.now l) (by_refused c.args.participants.now c.args.linked c.args.events.now c.deref.result.now c.deref-2.result.now c.deref-3.result.now (c.deref.ensures.value ∙ c.in_ok-refused.ensures) (c.deref-2.ensures.value ∙ c.in_ok-refused.ensures) (c.deref-3.ensures.value ∙ c.in_ok-causes.ensures)))
    c.add_by_cause.ensures
