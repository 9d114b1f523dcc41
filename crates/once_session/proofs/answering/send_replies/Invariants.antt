use Rattle.std.proofs.Common.{[]}
use Rattle.once_session.specs.Course.{OfBoth, Replies, Went, waiting}
use Rattle.once_session.proofs.answering.send_replies.Given as goal

abbrev pub invariant-loop-at : goal.invariant-loop-at
invariant-loop-at l = record {
  went : Went l.at l.initial.world l.world [] [];
  sent : OfBoth Replies l.initial.world.sides l.world.sides;
}

abbrev pub decreases-loop-at : goal.decreases-loop-at
decreases-loop-at l = waiting l.world.sides
