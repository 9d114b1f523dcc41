use Rattle.std.proofs.Common.{◌≡◌, ◌++◌, take}
use Rattle.frame_explanation.specs.Parts.{all_shown}
use Rattle.frame_explanation.proofs.parts.append_parts.Given as goal

abbrev pub invariant-loop-part : goal.invariant-loop-part
invariant-loop-part l = l.out.items ≡ l.fn.out.items ++ all_shown (take l.part-index l.parts)
