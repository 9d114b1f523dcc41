use Rattle.std.proofs.Common.{◌≡◌, ◌++◌, take}
use Rattle.std.specs.List.{flat_map}
use Rattle.surveillance.specs.Texts.{alarm_text}
use Rattle.surveillance.proofs.texts.append_alarms.Given as goal

-- those of what was looked at so far
abbrev pub invariant-loop-alarm : goal.invariant-loop-alarm
invariant-loop-alarm l = l.text.items ≡ l.fn.text.items ++ flat_map (alarm_text l.form l.participants) (take l.alarm-index l.alarms)
