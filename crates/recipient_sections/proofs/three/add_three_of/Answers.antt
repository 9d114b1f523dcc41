use Rattle.std.proofs.Common.{◌∙◌, ap, ℕ, List}
use Rattle.std.proofs.lemmas.Result.{on_ok_weaker}
use Rattle.page_text.specs.Parts.{with_parts}
use Rattle.recipient_sections.specs.Threes.{whole_section}
use Rattle.recipient_sections.proofs.three.add_three_of.Goals as goal

pub returns : goal.returns
returns c =
    on_ok_weaker c.add_whole.result
    (λ e. e ∙ ap (λ (l : List ℕ). with_parts c.args.page.now (whole_section c.args.participants.now c.args.opened.now l)) (c.deref.ensures.value ∙ c.in_ok-recipients.ensures))
    c.add_whole.ensures
