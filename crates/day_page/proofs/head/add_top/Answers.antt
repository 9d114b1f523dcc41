use Rattle.std.proofs.Common.{◌∷◌, [], ◌∙◌}
use Rattle.std.proofs.lemmas.Result.{on_ok_weaker}
use Rattle.page_text.specs.Parts.{with_part}
use Rattle.day_page.specs.declared.template.TheConstants.{TOP}
use Rattle.day_page.specs.Sections.{days_of}
use Rattle.day_page.proofs.head.add_top.Goals as goal

pub returns : goal.returns
returns c =
    on_ok_weaker c.add.result
    (λ e. e ∙ (λ j. with_part c.args.page.now (record {
      template = TOP.now;
      values = c.venue.ensures.value j ∷ (c.deref.ensures.value ∙ (c.in_ok-days.ensures ∙ (λ k. days_of (c.first_utc-first.ensures k) (c.last_utc-last.ensures k)))) j ∷ [];
    })))
    c.add.ensures.added
