use Rattle.std.proofs.Common.{◌≡◌, ◌++◌, take}
use Rattle.std.specs.List.{flat_map}
use Rattle.refusal_causes.specs.Printed.{then_lines}
use Rattle.refusal_causes.proofs.passing.append_all_then.Given as goal

abbrev pub invariant-loop-reply : goal.invariant-loop-reply
invariant-loop-reply l = l.text.items ≡ l.fn.text.items ++ flat_map (then_lines l.participants) (take l.reply-index l.replies)
