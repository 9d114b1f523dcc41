use Rattle.std.proofs.Common.{◌≤◌, ap, subst, Result, Ok, Err, IfOk, arith}
use Rattle.std.proofs.lemmas.Result.{IfOk-weaker}
use Rattle.venue_rules.specs.Run.{Message}
use Rattle.venue_core.specs.Plan.{most_items}
use Rattle.venue_core.specs.VenueFacts.{IsStanding}
use Rattle.venue_core.specs.State.{VenueFacts, State}
use Rattle.venue_core.proofs.venue.Venue.plan.Goals as goal

both_ok : {T E : Type 0} (r : Result T E) (P Q : T → Type 0) → IfOk r P → IfOk r Q → IfOk r (λ x. P x × Q x)
both_ok (Ok x) P Q p q = (p, q)
both_ok (Err e) P Q p q = tt

pub returns-clause-made : goal.returns-clause-made
returns-clause-made c =
    let few : c.self.inside.items ≤ most_items = omega (arith, ap (λ (s : State). s.items) c.self.view_is, c.requires) in
    IfOk-weaker c.plan_message.result _ _ (λ p e. record { input = Message c.args.taken.now c.args.moment; answers = λ h stands. e.0 h (subst (λ (q : VenueFacts). IsStanding q h) c.plan_message.ensures.kept stands); made = e.1; items = few })
    (both_ok c.plan_message.result _ _ c.plan_message.ensures.planned c.plan_message.ensures.made)
