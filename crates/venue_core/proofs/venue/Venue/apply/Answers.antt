use Rattle.std.proofs.Common.{sym, subst, arith}
use Rattle.venue_core.specs.Files.{market_of}
use Rattle.venue_core.specs.Plan.{IsPlanOf}
use Rattle.venue_core.specs.State.{State}
use Rattle.venue_core.proofs.Listing.{made-added, still-listed}
use Rattle.venue_core.proofs.venue.Venue.apply.Goals as goal

pub add_plan-requires : goal.add_plan-requires
add_plan-requires c =
    let p = subst (λ (s : State). IsPlanOf s c.args.plan) (sym c.self.view_is) c.requires in
    record { few = (omega (arith, p.items, c.self.invariant.0), omega (arith, p.items, c.self.invariant.1)); numbered = c.self.invariant.3.numbered; room = made-added (market_of c.self.inside.market) c.self.inside.day c.args.plan p.made }

pub invariant_of-self : goal.invariant_of-self
invariant_of-self c =
    let p = subst (λ (s : State). IsPlanOf s c.args.plan) (sym c.self.view_is) c.requires in
    (omega (arith, c.self.invariant.0, c.add_plan.ensures.reports), omega (arith, c.self.invariant.1, c.add_plan.ensures.trades), omega (arith, p.items), still-listed (market_of c.self.inside.market) c.self.inside.day _ c.args.plan c.add_plan.ensures.added c.add_plan.ensures.numbered p.made c.self.invariant.3)
