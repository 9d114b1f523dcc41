use Rattle.std.proofs.Common.{refl}
use Rattle.venue_rules.specs.declared.trail.EventFault.TheVariants.{Due}
use Rattle.venue_world.specs.declared.world_event.WorldEvent.TheVariants.{Takes, VenueTicks}
use Rattle.frame_explanation.proofs.Going.{did-after, did-quiet}
use Rattle.frame_explanation.proofs.hearing.take_or_tick.Goals as goal

pub returns-in-Ok-clause-did : goal.returns-in-Ok-clause-did
returns-in-Ok-clause-did c = did-quiet (Takes c.args.who c.args.at) c.args.world.now c.event.new.self c.in-Ok.ensures.ok (λ r w. refl) (λ w. refl)

pub returns-in_ok-event-in-Err-Due-clause-did : goal.returns-in_ok-event-in-Err-Due-clause-did
returns-in_ok-event-in-Err-Due-clause-did c =
    did-after (Takes c.args.who c.args.at) (VenueTicks c.args.at) _ c.args.world.now c.event.new.self c.event-in-Err-Due.new.self c.in-Err-Due.ensures.err
    (did-quiet (VenueTicks c.args.at) c.event.new.self c.event-in-Err-Due.new.self c.in_ok-event-in-Err-Due.ensures.ok (λ r w. refl) (λ w. refl))
