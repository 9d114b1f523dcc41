use Rattle.std.proofs.Common.{◌∷◌, [], ◌∙◌, ap, sym, List, ℕ, length}
use Rattle.std.proofs.lemmas.Result.{on_ok_weaker}
use Rattle.page_text.specs.Parts.{with_part, with_parts}
use Rattle.request_sections.proofs.requests.add_twice.Goals as goal

pub returns : goal.returns
returns c =
    on_ok_weaker c.add.result
    (λ e. e ∙ (λ j. with_part c.args.page.now (record {
      template = c.args.template.now;
      values = (c.deref.ensures.value ∙ c.in_ok-text.ensures) j ∷ (c.deref-2.ensures.value ∙ c.in_ok-text.ensures) j ∷ [];
    })))
    c.add.ensures.added
