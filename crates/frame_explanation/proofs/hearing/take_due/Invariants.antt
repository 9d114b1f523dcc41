use Rattle.std.proofs.Common.{◌≡◌, [], length}
use Rattle.frame_explanation.specs.Hearing.{Did, ticks}
use Rattle.frame_explanation.proofs.hearing.take_due.Given as goal

abbrev pub invariant-loop-side : goal.invariant-loop-side
invariant-loop-side l = record {
  did : Did l.fn.world l.world (ticks l._side l.at) [] [];
  sides : length l.world.sides ≡ length l.fn.world.sides;
}
