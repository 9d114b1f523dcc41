use Rattle.std.proofs.Common.{◌∷◌, [], ◌∙◌, ◌≡◌, ◌++◌, ap, sym, List, ℕ, length, take, Bool}
use Rattle.std.proofs.lemmas.Result.{on_ok_weaker}
use Rattle.std.specs.List.{flat_map}
use Rattle.page_text.specs.Parts.{Part, with_part, with_parts}
use Rattle.day_tables.specs.Parts.{plain_part}
use Rattle.day_sections.proofs.Walks.{in_frame, in_turn}
use Rattle.day_tables.specs.Values.{grouped}
use Rattle.request_sections.specs.declared.template.TheConstants.{MORE_SHOWN}
use Rattle.request_sections.proofs.shown.add_more_of.Goals as goal

pub returns : goal.returns
returns c =
    on_ok_weaker c.add.result
    (λ e. e ∙ (λ j. with_part c.args.page.now (record {
      template = MORE_SHOWN.now;
      values = (c.deref.ensures.value ∙ (c.in_ok-count.ensures ∙ ap grouped c.saturating_sub.ensures)) j ∷ (c.deref-2.ensures.value ∙ (c.in_ok-quantity.ensures ∙ ap grouped c.total.ensures)) j ∷ [];
    })))
    c.add.ensures.added
