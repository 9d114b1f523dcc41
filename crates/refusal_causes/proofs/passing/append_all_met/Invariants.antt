use Rattle.std.proofs.Common.{◌≡◌, ◌++◌, take}
use Rattle.std.specs.List.{flat_map}
use Rattle.refusal_causes.specs.Printed.{met_lines}
use Rattle.refusal_causes.proofs.passing.append_all_met.Given as goal

abbrev pub invariant-loop-reply : goal.invariant-loop-reply
invariant-loop-reply l = l.text.items ≡ l.fn.text.items ++ flat_map (met_lines l.participants l.who l.entering) (take l.reply-index l.replies)
