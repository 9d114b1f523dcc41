use Rattle.std.proofs.Common.{◌∙◌, ap, sym, subst}
use Rattle.venue_rules.specs.Market.{Market}
use Rattle.venue_core.specs.VenueFacts.{IsHistory, IsStanding}
use Rattle.venue_core.specs.State.{VenueFacts}
use Rattle.row_replay.specs.Inputs.{input_of}
use Rattle.refusal_causes.specs.Printed.{why_text}
use Rattle.refusal_causes.proofs.printing.text_at.Goals as goal

pub returns : goal.returns
returns c = λ h is.
    let a = c.args in
    let i = input_of a.taken.now a.row.now.moment in
    let e = c.in_ok-why.ensures in
    let w = c.in_ok-why.why in
    let here : IsHistory c.why_at.new.venue h = subst (λ (p : VenueFacts). IsStanding p h) (sym e.day) is in
    record {
      cause = w.cause;
      count = w.count;
      passes = w.passes;
      named = e.named h is;
      counted = e.counted h is;
      first = e.first h is;
      right = e.passes h is;
      printed = c.in_ok-text.ensures h here ∙ ap (λ (n : Market). why_text n h a.row.now i w.cause w.count w.passes) e.market;
    }
