use Rattle.std.proofs.Common.{◌∷◌, [], ◌∙◌, ap}
use Rattle.std.proofs.lemmas.Result.{on_ok_weaker}
use Rattle.page_text.specs.Parts.{with_part}
use Rattle.day_tables.specs.Values.{clock_text}
use Rattle.request_sections.specs.declared.template.TheConstants.{REFUSED}
use Rattle.request_sections.proofs.refused.add_cause.Goals as goal

pub returns : goal.returns
returns c =
    on_ok_weaker c.add.result
    (λ e. e ∙ (λ j. with_part c.args.page.now (record {
      template = REFUSED.now;
      values = c.sender_at-sender.ensures j ∷ (c.deref.ensures.value ∙ c.in_ok-named.ensures) j ∷ (c.clock_text.ensures ∙ ap (clock_text c.args.dated) c.print_utc-moment.ensures) j ∷ c.cause_of.ensures j ∷ [];
    })))
    c.add.ensures.added
