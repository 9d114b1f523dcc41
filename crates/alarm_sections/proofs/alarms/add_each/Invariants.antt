use Rattle.std.proofs.Common.{◌≡◌, drop}
use Rattle.std.specs.List.{flat_map}
use Rattle.page_text.specs.Parts.{with_parts}
use Rattle.alarm_sections.specs.Alarms.{alarm_parts}
use Rattle.alarm_sections.proofs.alarms.add_each.Given as goal

-- the parts so far, and then those of the others, are all
abbrev pub invariant-loop-alarm : goal.invariant-loop-alarm
invariant-loop-alarm l = with_parts l.page (flat_map (alarm_parts l.participants l.linked) (drop l.alarm-index l.alarms)) ≡ with_parts l.fn.page (flat_map (alarm_parts l.participants l.linked) l.alarms)
