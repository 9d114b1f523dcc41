use Rattle.std.proofs.Common.{[], subst}
use Rattle.std.proofs.lemmas.Result.{err_from_is_err_and}
use Rattle.std.specs.Io.KnownBytes.{Keeps}
use Rattle.fix_session.specs.declared.plan.Step.{Step}
use Rattle.fix_session.specs.declared.plan.Step.TheVariants.{Idle}
use Rattle.once_session.specs.Acts.{IsAnswered}
use Rattle.once_session.specs.Course.{Answers, IsAllHeard, OfBoth, WroteOn}
use Rattle.once_session.proofs.Events.{fewer-unread}
use Rattle.once_session.proofs.First.{of-later}
use Rattle.once_session.proofs.Going.{somewhere-then, wrote-kept, wrote-nil, wrote-then}
use Rattle.once_session.proofs.Outcomes.{unless_output}
use Rattle.once_session.proofs.answering.answer_frames.Goals as goal

pub loop-init : goal.loop-init
loop-init g c = record { wrote = wrote-nil c.args.at c.args.world.now (g.W.Write.contents c.args.writer.now); answered = c.requires.answered }

pub answer_frame-requires-clause-somewhere : goal.answer_frame-requires-clause-somewhere
answer_frame-requires-clause-somewhere g c =
    let wrote = c.loop.invariant.wrote in
    somewhere-then c.one_reader.ensures.some c.args.at c.args.world.now c.loop.world [] wrote.given wrote.went c.requires.somewhere

pub loop-preserved : goal.loop-preserved
loop-preserved g c =
    let old = c.args.world.now in
    let mid = c.loop.world in
    let new = c.answer_frame.new.world in
    let answer = c.in_ok-answer_frame.field-0 in
    record {
      wrote = wrote-then c.args.at old mid new [] [] (g.W.Write.contents c.args.writer.now) (g.W.Write.contents c.loop.writer) (g.W.Write.contents c.answer_frame.new.writer) c.loop.invariant.wrote c.in_ok-answer_frame.ensures.wrote;
      answered = of-later (Answers answer) IsAnswered mid.sides new.sides c.in_ok-answer_frame.ensures.answered (λ s s' p. p.answered);
    }

pub loop-smaller : goal.loop-smaller
loop-smaller g c = fewer-unread c.in_ok-answer_frame.field-0 c.loop.world.sides c.answer_frame.new.world.sides c.in_ok-answer_frame.ensures.answered c.in_default.not-Idle

pub returns-in-Idle-clause-wrote : goal.returns-in-Idle-clause-wrote
returns-in-Idle-clause-wrote g c =
    wrote-then c.args.at c.args.world.now c.loop.world c.answer_frame.new.world [] [] (g.W.Write.contents c.args.writer.now) (g.W.Write.contents c.loop.writer) (g.W.Write.contents c.answer_frame.new.writer) c.loop.invariant.wrote c.in_ok-answer_frame.ensures.wrote

pub returns-in-Idle-clause-answered : goal.returns-in-Idle-clause-answered
returns-in-Idle-clause-answered g c = of-later (Answers c.in_ok-answer_frame.field-0) IsAnswered c.loop.world.sides c.answer_frame.new.world.sides c.in_ok-answer_frame.ensures.answered (λ s s' p. p.answered)

pub returns-in-Idle-clause-heard : goal.returns-in-Idle-clause-heard
returns-in-Idle-clause-heard g c =
    let mid = c.loop.world in
    let new = c.answer_frame.new.world in
    of-later (Answers Idle) IsAllHeard mid.sides new.sides (subst (λ (x : Step). OfBoth (Answers x) mid.sides new.sides) c.in-Idle.is c.in_ok-answer_frame.ensures.answered) (λ s s' p. p.ends)

pub returns-in_err-answer_frame-clause-stopped : goal.returns-in_err-answer_frame-clause-stopped
returns-in_err-answer_frame-clause-stopped g c =
    let p = err_from_is_err_and c.from_residual.result c.from_residual.ensures.1 in
    let old = c.args.world.now in
    let mid = c.loop.world in
    let held = g.W.Write.contents c.args.writer.now in
    let before = g.W.Write.contents c.loop.writer in
    let after = g.W.Write.contents c.answer_frame.new.writer in
    rw (p.1, p.2) (unless_output c.in_err-answer_frame.field-0.0 (Keeps before after) (WroteOn c.args.at old [] held after)
    (λ kept. record { then = mid; wrote = wrote-kept c.args.at old mid [] held before after c.loop.invariant.wrote kept }) c.in_err-answer_frame.ensures.unwritten)
