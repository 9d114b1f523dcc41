use Rattle.std.proofs.Common.{◌≡◌, length, map}
use Rattle.frame_explanation.specs.Hearing.{HearsAll, item_of}
use Rattle.frame_explanation.proofs.hearing.hear_all.Given as goal

abbrev pub invariant-loop-one : goal.invariant-loop-one
invariant-loop-one l = record {
  listed : map item_of l.all.items ≡ l.yielded;
  hears : HearsAll l.fn.world l.world l.all.items;
  sides : length l.world.sides ≡ length l.fn.world.sides;
}
