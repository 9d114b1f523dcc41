use Rattle.std.proofs.Common.{◌∙◌, ◌++◌, ℕ, List, ap, sym, subst, append_assoc}
use Rattle.std.proofs.lemmas.Result.{on_ok_weaker}
use Rattle.venue_rules.specs.Answers.{answer}
use Rattle.venue_rules.specs.Market.{Market}
use Rattle.venue_core.specs.State.{VenueFacts}
use Rattle.venue_core.specs.VenueFacts.{IsHistory, IsStanding}
use Rattle.refusal_causes.specs.Linking.{link_lines}
use Rattle.refusal_causes.specs.Printed.{passing_lines}
use Rattle.refusal_causes.proofs.passing.append_linked_passing.Goals as goal

pub returns-clause-text : goal.returns-clause-text
returns-clause-text c = λ h is.
    let a = c.args in
    let m : Market = a.venue.now.market in
    let e = c.in_ok-append_link.ensures in
    let here : IsHistory c.append_link.new.venue h = subst (λ (p : VenueFacts). IsStanding p h) (sym e.day) is in
    let lines : Market → List ℕ = λ n. passing_lines n.participants n.instruments a.taken.now.from a.moment a.passes (answer n h a.taken.now a.passes).replies in
    on_ok_weaker c.append_message_passing.result
    (λ q. q ∙ ap (λ (n : Market). c.append_link.new.text.items ++ lines n) e.market ∙ ap (λ (l : List ℕ). l ++ lines m) (e.text h is) ∙ append_assoc a.text.now.items (link_lines m h a.taken.now a.moment) (lines m))
    (c.append_message_passing.ensures.text h here)
