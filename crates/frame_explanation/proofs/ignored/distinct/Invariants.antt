use Rattle.std.proofs.Common.{◌≡◌, [], drop}
use Rattle.frame_explanation.specs.Ignored.{distinct_from}
use Rattle.frame_explanation.proofs.ignored.distinct.Given as goal

abbrev pub invariant-loop-tag : goal.invariant-loop-tag
invariant-loop-tag l = distinct_from l.kinds.items (drop l.tag-index l.tags) ≡ distinct_from [] l.tags
