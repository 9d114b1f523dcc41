use Rattle.std.proofs.Common.{◌∷◌, [], ◌∙◌, ap, List, ℕ, length}
use Rattle.std.proofs.lemmas.Result.{on_ok_weaker}
use Rattle.page_text.specs.Parts.{Part, with_part, with_parts}
use Rattle.std.specs.List.{flat_map}
use Rattle.std.specs.Prelude.{filter, take}
use Rattle.day_sections.proofs.Walks.{in_frame}
use Rattle.day_tables.specs.Values.{grouped}
use Rattle.day_events.specs.declared.event.Event.{Event}
use Rattle.day_sections.specs.declared.picks.Pick.TheVariants as pick
use Rattle.day_sections.specs.declared.template.TheConstants.{CAUSE}
use Rattle.day_sections.specs.Picks.{is_picked}
use Rattle.day_sections.specs.Refusals.{cause_part, most_rows, more_part, refused_parts}
use Rattle.day_sections.proofs.refusals.add_cause.Goals as goal

pub returns : goal.returns
returns c =
    let es : List Event = filter (is_picked (pick.Refused c.args.cause.now)) c.args.events.now in
    let parts : List Event → List Part = λ l. flat_map (refused_parts c.args.participants.now c.args.linked) l in
    on_ok_weaker c.add_more.result
    (λ e. in_frame c.args.page.now c.add.new.self c.add_each_refused.new.page c.add_more.new.page (cause_part c.args.cause.now (length es)) (parts (take most_rows es)) (more_part (length es))
    (c.in_ok-add.ensures.added ∙ (λ j. with_part c.args.page.now (record { template = CAUSE.now; values = c.cause_text.ensures j ∷ (c.deref-2.ensures.value ∙ (c.in_ok-count.ensures ∙ ap grouped (c.many.ensures ∙ ap (λ (l : List Event). length l) (c.deref.ensures.value ∙ c.in_ok-refused.ensures)))) j ∷ [] })))
    (c.in_ok-add_each_refused.ensures ∙ ap (λ (l : List Event). with_parts c.add.new.self (parts l)) (c.first_of.ensures ∙ ap (λ (l : List Event). take most_rows l) (c.deref-3.ensures.value ∙ c.in_ok-refused.ensures)))
    (e ∙ ap (λ (n : ℕ). with_part c.add_each_refused.new.page (more_part n)) (c.many-2.ensures ∙ ap (λ (l : List Event). length l) (c.deref-4.ensures.value ∙ c.in_ok-refused.ensures))))
    c.add_more.ensures
