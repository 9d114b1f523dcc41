use Rattle.std.proofs.Common.{◌≡◌, drop}
use Rattle.std.specs.List.{flat_map}
use Rattle.page_text.specs.Parts.{with_parts}
use Rattle.recipient_sections.specs.Threes.{pair_parts}
use Rattle.recipient_sections.proofs.three.add_pairs.Given as goal

-- the parts so far, and then those of the others, are all
abbrev pub invariant-loop-pair : goal.invariant-loop-pair
invariant-loop-pair l = with_parts l.page (flat_map (pair_parts l.participants) (drop l.pair-index l.pairs)) ≡ with_parts l.fn.page (flat_map (pair_parts l.participants) l.pairs)
