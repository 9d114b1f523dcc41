use Rattle.std.proofs.Common.{◌≡◌, ◌++◌, drop}
use Rattle.std.specs.List.{flat_map}
use Rattle.frame_explanation.specs.Ignored.{ignored_line}
use Rattle.frame_explanation.proofs.ignored.append_each.Given as goal

abbrev pub invariant-loop-tag : goal.invariant-loop-tag
invariant-loop-tag l = l.out.items ++ flat_map (ignored_line l.tags) (drop l.tag-index l.kinds) ≡ l.fn.out.items ++ flat_map (ignored_line l.tags) l.kinds
