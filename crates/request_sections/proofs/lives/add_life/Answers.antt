use Rattle.std.proofs.Common.{◌∷◌, [], ◌∙◌, ◌≡◌, ◌++◌, ap, sym, List, ℕ, length, take, Bool}
use Rattle.std.proofs.lemmas.Result.{on_ok_weaker}
use Rattle.std.specs.List.{flat_map}
use Rattle.page_text.specs.Parts.{Part, with_part, with_parts}
use Rattle.day_tables.specs.Parts.{plain_part}
use Rattle.day_sections.proofs.Walks.{in_frame, in_turn}
use Rattle.std.specs.Prelude.{decimal, ◌-◌}
use Rattle.request_sections.specs.declared.template.TheConstants.{LIFE}
use Rattle.request_sections.proofs.lives.add_life.Goals as goal

pub returns : goal.returns
returns c =
    on_ok_weaker c.add.result
    (λ e. e ∙ (λ j. with_part c.args.page.now (record {
      template = LIFE.now;
      values = (c.deref.ensures.value ∙ (c.in_ok-from.ensures ∙ ap decimal c.place-start.ensures)) j ∷ (c.deref-2.ensures.value ∙ (c.in_ok-to.ensures ∙ ap decimal c.place.ensures)) j ∷ (c.deref-3.ensures.value ∙ (c.in_ok-from.ensures ∙ ap decimal c.place-start.ensures)) j ∷ (c.deref-4.ensures.value ∙ (c.in_ok-width.ensures ∙ (ap decimal c.saturating_sub.ensures ∙ (λ k. decimal (c.place-2.ensures k - c.place-start.ensures k))))) j ∷ [];
    })))
    c.add.ensures.added
