use Rattle.std.proofs.Common.{[], refl}
use Rattle.venue_world.specs.declared.world_event.WorldEvent.TheVariants.{Alone, Takes}
use Rattle.venue_world.specs.declared.world_event.SessionEvent.TheVariants.{Hands}
use Rattle.once_session.specs.Course.{IsHeard}
use Rattle.once_session.proofs.Events.{Handed, alone-first, alone-sides, hands-first, take-first, taken-first, takes-of-first}
use Rattle.once_session.proofs.First.{of-later}
use Rattle.once_session.proofs.Going.{somewhere-then, went-one, went-then}
use Rattle.once_session.proofs.answering.take_ready.Goals as goal

pub returns-clause-went : goal.returns-clause-went
returns-clause-went c =
    let t = c.args.at in
    let old = c.args.world.now in
    let mid = c.event.new.self in
    let new = c.event-2.new.self in
    went-then t old mid new [] [] [] []
    (went-one t (Alone 0 Hands) old mid [] (alone-first c.first.result Hands old mid c.first.ensures c.in_ok-event.ensures.ok) (λ r w shows. tt) (λ w shows. refl))
    (went-one t (Takes 0 t) mid new [] (takes-of-first c.first-2.result t mid new c.first-2.ensures c.in_ok-event-2.ensures.ok) (λ r w shows. refl) (λ w shows. refl))

pub returns-clause-taken : goal.returns-clause-taken
returns-clause-taken c =
    let r = c.one_reader.ensures.some in
    let t = c.args.at in
    let old = c.args.world.now in
    let mid = c.event.new.self in
    let new = c.event-2.new.self in
    let handed = alone-first c.first.result Hands old mid c.first.ensures c.in_ok-event.ensures.ok in
    let took = takes-of-first c.first-2.result t mid new c.first-2.ensures c.in_ok-event-2.ensures.ok in
    let place = somewhere-then r t old mid [] [] (went-one t (Alone 0 Hands) old mid [] handed (λ r w shows. tt) (λ w shows. refl)) c.requires.somewhere in
    let hands = hands-first r old.sides mid.sides (alone-sides r Hands old mid c.requires.somewhere (handed r)) c.requires.heard in
    taken-first old.sides mid.sides new.sides hands
    (take-first (λ s. Unit {0}) r t mid new place (took r) (of-later (λ s s'. IsHeard s × Handed s s') (λ s. Unit {0}) old.sides mid.sides hands (λ s s' h. tt)))
