use Rattle.std.proofs.Common.{◌≡◌, ◌++◌, take}
use Rattle.std.specs.List.{flat_map}
use Rattle.refusal_causes.specs.Printed.{reply_lines}
use Rattle.refusal_causes.proofs.verdict.append_replies.Given as goal

abbrev pub invariant-loop-reply : goal.invariant-loop-reply
invariant-loop-reply l = l.text.items ≡ l.fn.text.items ++ flat_map (reply_lines l.participants l.row) (take l.reply-index l.replies)
