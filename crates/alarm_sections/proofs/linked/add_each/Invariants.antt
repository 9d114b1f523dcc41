use Rattle.std.proofs.Common.{◌≡◌, drop}
use Rattle.std.specs.List.{flat_map}
use Rattle.page_text.specs.Parts.{with_parts}
use Rattle.alarm_sections.specs.Linked.{linked_parts}
use Rattle.alarm_sections.proofs.linked.add_each.Given as goal

-- the parts so far, and then those of the others, are all
abbrev pub invariant-loop-trade : goal.invariant-loop-trade
invariant-loop-trade l = with_parts l.page (flat_map (linked_parts l.lines.participants.now l.lines.shown l.lines.dated) (drop l.trade-index l.trades)) ≡ with_parts l.fn.page (flat_map (linked_parts l.lines.participants.now l.lines.shown l.lines.dated) l.trades)
