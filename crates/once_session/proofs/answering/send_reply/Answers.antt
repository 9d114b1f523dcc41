use Rattle.std.proofs.Common.{[], refl}
use Rattle.venue_world.specs.declared.world_event.WorldEvent.TheVariants.{Alone}
use Rattle.venue_world.specs.declared.world_event.SessionEvent.TheVariants.{Delivers, Collects}
use Rattle.once_session.proofs.Events.{Delivered, alone-allowed, alone-first, alone-sides, collects-first, delivers-first, replied-first}
use Rattle.once_session.proofs.First.{of-later}
use Rattle.once_session.proofs.Going.{somewhere-then, went-one, went-then}
use Rattle.once_session.proofs.answering.send_reply.Goals as goal

pub returns-clause-went : goal.returns-clause-went
returns-clause-went c =
    let t = c.args.at in
    let old = c.args.world.now in
    let mid = c.event.new.self in
    let new = c.event-2.new.self in
    went-then t old mid new [] [] [] []
    (went-one t (Alone 0 Delivers) old mid [] (alone-first c.first.result Delivers old mid c.first.ensures c.in_ok-event.ensures.ok) (λ r w shows. tt) (λ w shows. refl))
    (went-one t (Alone 0 (Collects t)) mid new [] (alone-first c.first-2.result (Collects t) mid new c.first-2.ensures c.in_ok-event-2.ensures.ok) (λ r w shows. refl) (λ w shows. refl))

pub returns-clause-sent : goal.returns-clause-sent
returns-clause-sent c =
    let r = c.one_reader.ensures.some in
    let t = c.args.at in
    let old = c.args.world.now in
    let mid = c.event.new.self in
    let new = c.event-2.new.self in
    let delivered = alone-first c.first.result Delivers old mid c.first.ensures c.in_ok-event.ensures.ok in
    let collected = alone-first c.first-2.result (Collects t) mid new c.first-2.ensures c.in_ok-event-2.ensures.ok in
    let place = somewhere-then r t old mid [] [] (went-one t (Alone 0 Delivers) old mid [] delivered (λ r w shows. tt) (λ w shows. refl)) c.requires.somewhere in
    let delivers = delivers-first r old.sides mid.sides (alone-sides r Delivers old mid c.requires.somewhere (delivered r)) c.requires.free in
    let collects = collects-first (λ s. Unit {0}) r t mid.sides new.sides (alone-sides r (Collects t) mid new place (collected r)) (alone-allowed r (Collects t) mid new place (collected r))
    (of-later Delivered (λ s. Unit {0}) old.sides mid.sides delivers (λ s s' d. tt)) in
    replied-first old.sides mid.sides new.sides delivers collects
