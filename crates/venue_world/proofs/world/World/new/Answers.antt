use Rattle.std.proofs.Common.{◌≡◌, ◌≤◌, length, sym, ap, subst, ◌∙◌, arith}
use Rattle.venue_rules.specs.Facts.{no_history}
use Rattle.venue_core.specs.State.{VenueFacts}
use Rattle.venue_core.specs.VenueFacts.{IsStanding}
use Rattle.venue_world.proofs.Places.{length-sides}
use Rattle.venue_world.proofs.Slots.{fresh_sides}
use Rattle.venue_world.proofs.world.World.new.Goals as goal

pub new-requires-clause-participants : goal.new-requires-clause-participants
new-requires-clause-participants g c = omega (arith, c.len.ensures, c.in_ok-slots.slots.ok.0, c.in_ok-slots.ensures.few)

pub new-requires-clause-counted : goal.new-requires-clause-counted
new-requires-clause-counted g c _ = ap length c.requires

pub invariant_of-result : goal.invariant_of-result
invariant_of-result g c =
    let e = c.in_ok-engine.ensures.queues.0 in
    let n = c.len.ensures in
    let ok = c.in_ok-slots.slots.ok.0 in
    (omega (arith, e, n, ok), c.in_ok-slots.ensures.few)

pub returns-clause-fresh : goal.returns-clause-fresh
returns-clause-fresh g c =
    let e = c.in_ok-engine.ensures in
    let long : length c.in_ok-slots.slots.items ≡ length c.in_ok-engine.engine.queues = (let q = e.queues.0 in let n = c.len.ensures in let ok = c.in_ok-slots.slots.ok.0 in omega (arith, q, n, ok)) in
    record {
      market = e.venue.0 ∙ c.in_ok-venue.ensures.market;
      history = subst (λ (p : VenueFacts). IsStanding p no_history) (sym e.venue.1) c.in_ok-venue.ensures.history;
      rows = λ _. e.keeper.0 ∙ c.requires;
      count = e.start.1;
      moment = e.start.2;
      sides = fresh_sides c.args.participants c.args.participants.names c.in_ok-slots.slots.items c.in_ok-engine.engine.queues c.in_ok-slots.ensures.fresh long e.queues.1;
    }

pub returns-clause-sides : goal.returns-clause-sides
returns-clause-sides g c =
    let e = c.in_ok-engine.ensures in
    let long : length c.in_ok-slots.slots.items ≡ length c.in_ok-engine.engine.queues = (let q = e.queues.0 in let n = c.len.ensures in let ok = c.in_ok-slots.slots.ok.0 in omega (arith, q, n, ok)) in
    length-sides c.in_ok-slots.slots.items c.in_ok-engine.engine.queues long ∙ c.in_ok-slots.ensures.count
