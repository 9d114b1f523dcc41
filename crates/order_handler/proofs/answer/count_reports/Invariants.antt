use Rattle.std.proofs.Common.{◌≡◌, ◌≤◌, count_by, take}
use Rattle.order_handler.specs.Counting.{is_reported}
use Rattle.order_handler.proofs.answer.count_reports.Given as goal

abbrev pub invariant-loop-reply : goal.invariant-loop-reply
invariant-loop-reply l = (l.count ≡ count_by is_reported (take l.reply-index l.replies)) × (l.count ≤ l.reply-index)
