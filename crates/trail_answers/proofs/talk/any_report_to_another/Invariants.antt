use Rattle.std.proofs.Common.{◌≡◌, drop}
use Rattle.std.specs.List.{list_any}
use Rattle.trail_answers.specs.Talk.{reports_to_another}
use Rattle.trail_answers.proofs.talk.any_report_to_another.Given as goal

abbrev pub invariant-loop-reply : goal.invariant-loop-reply
invariant-loop-reply l = list_any (reports_to_another l.quotes l.maker) (drop l.reply-index l.replies) ≡ list_any (reports_to_another l.quotes l.maker) l.replies
