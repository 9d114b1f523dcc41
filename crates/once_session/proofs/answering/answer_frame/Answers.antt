use Rattle.std.proofs.Common.{◌≡◌, ℕ, [], Some, max, refl, slice_get, subst}
use Rattle.fix_session.specs.Machine.{step}
use Rattle.fix_session.specs.Reader.{Reader}
use Rattle.venue_world.specs.declared.world_event.WorldEvent.TheVariants.{Alone}
use Rattle.venue_world.specs.declared.world_event.SessionEvent.TheVariants.{Steps}
use Rattle.venue_world.specs.Side.{Side}
use Rattle.once_session.specs.Course.{IsHeard, Went}
use Rattle.once_session.proofs.Events.{Stepped, alone-first, alone-sides, frame-first, may-step, step-first}
use Rattle.once_session.proofs.First.{of-later}
use Rattle.once_session.proofs.Going.{somewhere-then, went-one, went-then, went-wrote}
use Rattle.once_session.proofs.answering.answer_frame.Goals as goal

pub take_ready-requires-clause-somewhere : goal.take_ready-requires-clause-somewhere
take_ready-requires-clause-somewhere g c =
    let t = c.args.at in
    let old = c.args.world.now in
    let mid = c.step.new.self in
    let done = alone-first c.first.result (Steps t) old mid c.first.ensures c.in_ok-answer.ensures.ok in
    somewhere-then c.one_reader.ensures.some t old mid [] [] (went-one t (Alone 0 (Steps t)) old mid [] done (λ r w shows. may-step r t w old shows c.requires.answered) (λ w shows. refl)) c.requires.somewhere

pub take_ready-requires-clause-heard : goal.take_ready-requires-clause-heard
take_ready-requires-clause-heard g c =
    let t = c.args.at in
    let old = c.args.world.now in
    let mid = c.step.new.self in
    let answer = c.in_ok-answer.answer in
    let done = alone-first c.first.result (Steps t) old mid c.first.ensures c.in_ok-answer.ensures.ok in
    let says = subst (λ (n : ℕ). (r : Reader) (s : Side) → slice_get old.sides n ≡ Some s → answer ≡ (step r s.session (max s.moment t)).1) c.first.ensures c.in_ok-answer.ensures.answer in
    of-later (Stepped answer) IsHeard old.sides mid.sides
    (step-first c.one_reader.ensures.some t answer old.sides mid.sides c.steps_shorten.ensures c.idle_at_the_end.ensures c.requires.answered (λ r. alone-sides r (Steps t) old mid c.requires.somewhere (done r)) says)
    (λ s s' p. p.heard)

pub send_replies-requires-clause-somewhere : goal.send_replies-requires-clause-somewhere
send_replies-requires-clause-somewhere g c =
    let t = c.args.at in
    let old = c.args.world.now in
    let mid = c.step.new.self in
    let taken = c.take_ready.new.world in
    let done = alone-first c.first.result (Steps t) old mid c.first.ensures c.in_ok-answer.ensures.ok in
    let stepped = went-one t (Alone 0 (Steps t)) old mid [] done (λ r w shows. may-step r t w old shows c.requires.answered) (λ w shows. refl) in
    somewhere-then c.one_reader.ensures.some t old taken [] [] (went-then t old mid taken [] [] [] [] stepped c.in_ok-take_ready.ensures.went) c.requires.somewhere

pub returns-clause-wrote : goal.returns-clause-wrote
returns-clause-wrote g c =
    let t = c.args.at in
    let old = c.args.world.now in
    let mid = c.step.new.self in
    let taken = c.take_ready.new.world in
    let sent = c.send_replies.new.world in
    let new = c.write_queued.new.world in
    let done = alone-first c.first.result (Steps t) old mid c.first.ensures c.in_ok-answer.ensures.ok in
    let stepped = went-one t (Alone 0 (Steps t)) old mid [] done (λ r w shows. may-step r t w old shows c.requires.answered) (λ w shows. refl) in
    let went : Went t old sent [] [] = went-then t old mid sent [] [] [] [] stepped (went-then t mid taken sent [] [] [] [] c.in_ok-take_ready.ensures.went c.in_ok-send_replies.ensures.went) in
    went-wrote t old sent new [] [] (g.W.Write.contents c.args.writer.now) (g.W.Write.contents c.write_queued.new.writer) went (c.in_ok-write_queued.ensures.wrote t)

pub returns-clause-answered : goal.returns-clause-answered
returns-clause-answered g c =
    let t = c.args.at in
    let old = c.args.world.now in
    let mid = c.step.new.self in
    let answer = c.in_ok-answer.answer in
    let done = alone-first c.first.result (Steps t) old mid c.first.ensures c.in_ok-answer.ensures.ok in
    let says = subst (λ (n : ℕ). (r : Reader) (s : Side) → slice_get old.sides n ≡ Some s → answer ≡ (step r s.session (max s.moment t)).1) c.first.ensures c.in_ok-answer.ensures.answer in
    let stepped = step-first c.one_reader.ensures.some t answer old.sides mid.sides c.steps_shorten.ensures c.idle_at_the_end.ensures c.requires.answered (λ r. alone-sides r (Steps t) old mid c.requires.somewhere (done r)) says in
    frame-first answer old.sides mid.sides c.take_ready.new.world.sides c.send_replies.new.world.sides c.write_queued.new.world.sides stepped
    c.in_ok-take_ready.ensures.taken c.in_ok-send_replies.ensures.sent c.in_ok-send_replies.ensures.all c.in_ok-write_queued.ensures.sides
