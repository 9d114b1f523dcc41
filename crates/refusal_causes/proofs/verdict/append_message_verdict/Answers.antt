use Rattle.std.proofs.Common.{◌≡◌, ◌∙◌, ◌++◌, ℕ, List, ap, append_assoc}
use Rattle.std.proofs.lemmas.Result.{on_ok_weaker}
use Rattle.fix_dictionary.specs.declared.messages.App.{App}
use Rattle.refusal_causes.specs.declared.figures.Figures.{Figures}
use Rattle.refusal_causes.specs.Figures.{figures}
use Rattle.refusal_causes.specs.Listed.{many_in, number_in}
use Rattle.refusal_causes.specs.Printed.{related_lines, verdict_lines}
use Rattle.refusal_causes.proofs.verdict.append_message_verdict.Goals as goal

pub returns : goal.returns
returns c =
    let a = c.args in
    let app = a.taken.now.item.app in
    let figured = c.figures_for-figures.ensures ∙ ap (λ (app : App). figures a.instruments.now app a.what.now) c.get-app.ensures in
    let number = c.listed_place-listed.ensures.number ∙ ap (λ (app : App). number_in app a.place.cause a.what.now) c.get-app.ensures in
    let many = c.listed_place-listed.ensures.many ∙ ap (λ (app : App). many_in app a.place.count) c.get-app.ensures in
    let lines : ℕ → ℕ → Figures → List ℕ = λ n k f. verdict_lines a.place.cause n k a.what.now f in
    let related = related_lines a.participants.now a.taken.now.from app a.what.now in
    let text = a.text.now.items in
    on_ok_weaker c.append_related.result
    (λ e. e ∙ (ap (λ (l : List ℕ). l ++ related) (c.in_ok-append_verdict_lines.ensures ∙ ap (λ (f : Figures). text ++ lines c.listed_place-listed.result.cause c.listed_place-listed.result.count f) figured ∙ ap (λ (n : ℕ). text ++ lines n c.listed_place-listed.result.count (figures a.instruments.now app a.what.now)) number ∙ ap (λ (k : ℕ). text ++ lines (number_in app a.place.cause a.what.now) k (figures a.instruments.now app a.what.now)) many)
    ∙ append_assoc text (lines (number_in app a.place.cause a.what.now) (many_in app a.place.count) (figures a.instruments.now app a.what.now)) related))
    c.append_related.ensures
