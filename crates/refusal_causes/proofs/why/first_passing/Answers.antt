use Rattle.std.proofs.Common.{◌∙◌, sym, subst}
use Rattle.venue_rules.specs.Market.{Market}
use Rattle.venue_core.specs.VenueFacts.{IsHistory, IsStanding}
use Rattle.venue_core.specs.State.{VenueFacts}
use Rattle.sef_moment.specs.Utc.{greatest}
use Rattle.refusal_causes.specs.Why.{IsBetween, PassesFrom}
use Rattle.refusal_causes.proofs.Waiting.{at_itself, below_least}
use Rattle.refusal_causes.proofs.why.first_passing.Goals as goal

pub returns-then-branch-clause-passes : goal.returns-then-branch-clause-passes
returns-then-branch-clause-passes c = λ h is waits waiting u from within big.
    c.causes_are_first.ensures.before c.args.venue.now.market h c.args.taken.now u c.plus-last.result (below_least u _ greatest c.plus-last.result within big c.plus-last.ensures) (sym (c.in_ok-waits_at.ensures.emitted h is) ∙ c.if-branch.true)

pub returns-clause-passes : goal.returns-clause-passes
returns-clause-passes c = λ h is waits.
    let m = c.args.venue.now.market in
    let taken = c.args.taken.now in
    let t = c.args.moment in
    let e = c.in_ok-waits_at.ensures in
    let here : IsHistory c.waits_at.new.venue h = subst (λ (p : VenueFacts). IsStanding p h) (sym e.day) is in
    let at : IsBetween m h taken t t c.plus-last.result = record { from = at_itself t; holds = waits; passed = sym (e.emitted h is) ∙ c.if-branch.false } in
    subst (λ (n : Market). PassesFrom n h taken t c.in_ok-passes.passes) e.market (c.in_ok-passes.ensures.passes h t here (subst (λ (n : Market). IsBetween n h taken t t c.plus-last.result) (sym e.market) at))
