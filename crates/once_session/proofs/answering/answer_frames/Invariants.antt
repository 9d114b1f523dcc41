use Rattle.std.proofs.Common.{[]}
use Rattle.once_session.specs.Acts.{IsAnswered, OfFirst}
use Rattle.once_session.specs.Course.{Wrote, unread}
use Rattle.once_session.proofs.answering.answer_frames.Given as goal

abbrev pub invariant-loop : goal.invariant-loop
invariant-loop g l = record {
  wrote : Wrote l.at l.initial.world l.world [] (g.W.Write.contents l.initial.writer) (g.W.Write.contents l.writer);
  answered : OfFirst IsAnswered l.world.sides;
}

abbrev pub decreases-loop : goal.decreases-loop
decreases-loop g l = unread l.world.sides
