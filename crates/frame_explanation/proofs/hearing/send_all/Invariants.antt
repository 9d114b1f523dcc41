use Rattle.std.proofs.Common.{◌≡◌, [], length}
use Rattle.frame_explanation.specs.Hearing.{Did, replies}
use Rattle.frame_explanation.proofs.hearing.send_all.Given as goal

abbrev pub invariant-loop-reply : goal.invariant-loop-reply
invariant-loop-reply l = record {
  did : Did l.fn.world l.world (replies l._reply l.who l.at) [] [];
  sides : length l.world.sides ≡ length l.fn.world.sides;
}
