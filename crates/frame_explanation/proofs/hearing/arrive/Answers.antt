use Rattle.std.proofs.Common.{ℕ, ◌<◌, List, [], ◌∷◌, refl, subst, sym}
use Rattle.venue_world.specs.declared.world_event.WorldEvent.TheVariants.{Alone}
use Rattle.venue_world.specs.declared.world_event.SessionEvent.TheVariants.{Pieces, Steps}
use Rattle.frame_explanation.specs.Hearing.{Did}
use Rattle.frame_explanation.proofs.Going.{did-quiet, did-step, did-then}
use Rattle.frame_explanation.proofs.hearing.arrive.Goals as goal

pub returns-clause-did : goal.returns-clause-did
returns-clause-did c =
    let k = c.args.who in
    let old = c.args.world.now in
    let mid = c.event.new.self in
    let new = c.step.new.self in
    let piece = subst (λ (b : List ℕ). Did old mid (Alone k (Pieces b) ∷ []) [] []) c.of.ensures (did-quiet (Alone k (Pieces c.of.result)) old mid c.in_ok-event.ensures.ok (λ r w. refl) (λ w. refl)) in
    let low = subst (λ (n : ℕ). k < n) (sym c.event.ensures.sides) c.requires in
    did-then old mid new (Alone k (Pieces c.args.bytes.now) ∷ []) (Alone k (Steps c.args.at) ∷ []) [] (_ ∷ []) [] [] piece
    (did-step k c.args.at mid new _ c.in_ok-step.ensures.ok low c.in_ok-step.ensures.answer)
