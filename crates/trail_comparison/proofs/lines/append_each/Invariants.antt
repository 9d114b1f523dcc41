use Rattle.std.proofs.Common.{◌≡◌, ◌++◌, take}
use Rattle.std.specs.List.{flat_map}
use Rattle.trail_comparison.specs.Lines.{reply_text}
use Rattle.trail_comparison.proofs.lines.append_each.Given as goal

abbrev pub invariant-loop-reply : goal.invariant-loop-reply
invariant-loop-reply l = l.text.items ≡ l.fn.text.items ++ flat_map (reply_text l.label l.participants l.row) (take l.reply-index l.replies)
