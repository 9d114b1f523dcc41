use Rattle.std.proofs.Common.{◌≡◌, length}
use Rattle.frame_explanation.specs.Hearing.{SendsEach}
use Rattle.frame_explanation.proofs.hearing.send_each.Given as goal

abbrev pub invariant-loop-place : goal.invariant-loop-place
invariant-loop-place l = record {
  sends : SendsEach l.at 0 l.fn.world l.world l.sent.items;
  each : length l.sent.items ≡ l.place;
  sides : length l.world.sides ≡ length l.fn.world.sides;
}
