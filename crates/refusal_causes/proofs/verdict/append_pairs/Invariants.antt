use Rattle.std.proofs.Common.{◌≡◌, ◌++◌, take}
use Rattle.std.specs.List.{flat_map}
use Rattle.refusal_causes.specs.Printed.{pair_lines}
use Rattle.refusal_causes.proofs.verdict.append_pairs.Given as goal

abbrev pub invariant-loop-pair : goal.invariant-loop-pair
invariant-loop-pair l = l.text.items ≡ l.fn.text.items ++ flat_map (pair_lines l.participants l.who l.d) (take l.pair-index l.pairs)
