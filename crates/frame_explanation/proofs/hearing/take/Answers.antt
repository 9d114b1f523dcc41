use Rattle.std.proofs.Common.{[], ◌∷◌, ◌++◌, true, refl}
use Rattle.venue_world.specs.declared.world_event.WorldEvent.TheVariants.{Alone}
use Rattle.venue_world.specs.declared.world_event.SessionEvent.TheVariants.{Hands}
use Rattle.frame_explanation.specs.Hearing.{Did, take_or_tick, takes, ticks}
use Rattle.frame_explanation.proofs.Outcomes.{so_ok}
use Rattle.frame_explanation.proofs.Going.{did-quiet, did-then}
use Rattle.frame_explanation.proofs.hearing.take.Goals as goal

pub returns-clause-did : goal.returns-clause-did
returns-clause-did c =
    let k = c.args.who in
    let t = c.args.at in
    let old = c.args.world.now in
    let mid = c.event.new.self in
    let new = c.take_due.new.world in
    so_ok c.take_due.result _ _
    (λ h. (h.0, did-then old mid new (Alone k Hands ∷ []) (ticks h.0 t ++ take_or_tick true k t) [] [] [] [] (did-quiet (Alone k Hands) old mid c.in_ok-event.ensures.ok (λ r w. refl) (λ w. refl)) h.1))
    c.take_due.ensures.did
