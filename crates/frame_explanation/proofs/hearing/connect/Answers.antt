use Rattle.std.proofs.Common.{[], ◌∷◌, refl}
use Rattle.venue_world.specs.declared.world_event.WorldEvent.TheVariants.{Alone}
use Rattle.venue_world.specs.declared.world_event.SessionEvent.TheVariants.{Breaks, Resumes}
use Rattle.frame_explanation.proofs.Going.{did-quiet, did-then}
use Rattle.frame_explanation.proofs.hearing.connect.Goals as goal

pub returns-clause-did : goal.returns-clause-did
returns-clause-did c =
    let k = c.args.who in
    let old = c.args.world.now in
    let mid = c.event.new.self in
    let new = c.event-2.new.self in
    did-then old mid new (Alone k Breaks ∷ []) (Alone k (Resumes c.args.at) ∷ []) [] [] [] []
    (did-quiet (Alone k Breaks) old mid c.in_ok-event.ensures.ok (λ r w. refl) (λ w. refl))
    (did-quiet (Alone k (Resumes c.args.at)) mid new c.in_ok-event-2.ensures.ok (λ r w. refl) (λ w. refl))
