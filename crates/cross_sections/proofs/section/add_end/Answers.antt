use Rattle.std.proofs.Common.{◌∙◌, ◌-◌, ap}
use Rattle.std.proofs.lemmas.Result.{on_ok_weaker}
use Rattle.page_text.specs.Parts.{Part, with_part}
use Rattle.day_tables.specs.Parts.{plain_part}
use Rattle.cross_sections.specs.declared.template.TheConstants.{SECTION_END}
use Rattle.day_sections.specs.Folds.{most_folded}
use Rattle.cross_sections.specs.Section.{more_part}
use Rattle.day_sections.proofs.Walks.{above}
use Rattle.cross_sections.proofs.section.add_end.Goals as goal

pub returns-else-count-le-MOST_FOLDED : goal.returns-else-count-le-MOST_FOLDED
returns-else-count-le-MOST_FOLDED c =
    let n = c.args.count in
    on_ok_weaker c.add_more.result
    (λ e. e ∙ ap (λ (p : Part). with_part c.args.page.now p) (above n most_folded (plain_part SECTION_END.now) (more_part (n - most_folded)) c.if-count-le-MOST_FOLDED.false))
    c.add_more.ensures
