use Rattle.std.proofs.Common.{◌∙◌, ◌++◌, ℕ, List, ap}
use Rattle.std.proofs.lemmas.Result.{on_ok_weaker}
use Rattle.message_words.specs.Parts.{parts_text}
use Rattle.refusal_causes.specs.Figures.{figures_parts}
use Rattle.refusal_causes.specs.Printed.{before_lines, cause_text}
use Rattle.refusal_causes.specs.Sentences.{sentence}
use Rattle.refusal_causes.proofs.Texts.{three}
use Rattle.refusal_causes.proofs.verdict.append_refused.Goals as goal

pub returns : goal.returns
returns c =
    let a = c.args in
    on_ok_weaker c.append_before.result
    (λ e. three a.text.now.items (cause_text a.listed.cause a.listed.count (sentence a.what.now)) (parts_text (figures_parts a.figures.now)) (before_lines a.listed.cause) c.append_said.new.text.items c.append_figures.new.text.items
    c.append_before.new.text.items (c.in_ok-append_said.ensures ∙ ap (λ (s : List ℕ). a.text.now.items ++ cause_text a.listed.cause a.listed.count s) c.sentence.ensures) c.in_ok-append_figures.ensures e)
    c.append_before.ensures
