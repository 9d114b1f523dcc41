use Rattle.once_session.specs.Acts.{IsAnswered, OfFirst}
use Rattle.once_session.specs.Reading.{IsSoFar}
use Rattle.once_session.proofs.reading.answer_all.Given as goal

abbrev pub invariant-loop-read : goal.invariant-loop-read
invariant-loop-read g l = record {
  so_far : IsSoFar l.at l.initial.world l.world (g.R.Read.remaining l.initial.reader) (g.R.Read.remaining l.reader) (g.W.Write.contents l.initial.writer) (g.W.Write.contents l.writer);
  answered : OfFirst IsAnswered l.world.sides;
}
