use Rattle.std.proofs.Common.{◌∙◌, ◌++◌, ap, sym, subst}
use Rattle.venue_rules.specs.Market.{Market}
use Rattle.venue_core.specs.VenueFacts.{IsHistory, IsStanding}
use Rattle.venue_core.specs.State.{VenueFacts}
use Rattle.row_replay.specs.Inputs.{input_of}
use Rattle.refusal_causes.specs.Printed.{passing_text}
use Rattle.refusal_causes.proofs.Texts.{whole}
use Rattle.refusal_causes.proofs.printing.text_of.Goals as goal

pub returns : goal.returns
returns c = λ h is.
    let a = c.args in
    let i = input_of a.taken.now a.row.now.moment in
    let e = c.in_ok-append_answered.ensures in
    let here : IsHistory c.append_answered.new.venue h = subst (λ (p : VenueFacts). IsStanding p h) (sym e.day) is in
    whole _ _ _ c.new-text.result.items c.append_answered.new.text.items c.append_passing.new.text.items c.extend_from_slice.new.self.items c.new-text.ensures.items (e.text h is)
    (c.in_ok-append_passing.ensures.text h here ∙ ap (λ (n : Market). c.append_answered.new.text.items ++ passing_text n h i a.why.now.passes) e.market) c.in_ok-extend_from_slice.ensures.items
