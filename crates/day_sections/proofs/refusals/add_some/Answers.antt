use Rattle.std.proofs.Common.{◌∷◌, [], ◌∙◌}
use Rattle.std.proofs.lemmas.Result.{on_ok_weaker}
use Rattle.page_text.specs.Parts.{with_part}
use Rattle.std.specs.List.{flat_map}
use Rattle.day_tables.specs.Parts.{plain_part}
use Rattle.day_sections.proofs.Walks.{in_frame}
use Rattle.day_sections.specs.declared.template.TheConstants.{REFUSALS, TABLE_END}
use Rattle.day_sections.specs.Refusals.{cause_parts, count_part}
use Rattle.day_sections.proofs.refusals.add_some.Goals as goal

pub returns : goal.returns
returns c =
    on_ok_weaker c.add-2.result
    (in_frame c.args.page.now c.add.new.self c.add_each_cause.new.page c.add-2.new.self (count_part c.args.causes.now) (flat_map (cause_parts c.args.participants.now c.args.linked c.args.events.now) c.args.causes.now) (plain_part TABLE_END.now)
    (c.in_ok-add.ensures.added ∙ (λ j. with_part c.args.page.now (record { template = REFUSALS.now; values = (c.deref.ensures.value ∙ c.in_ok-count.ensures) j ∷ [] })))
    c.in_ok-add_each_cause.ensures)
    c.add-2.ensures.added
