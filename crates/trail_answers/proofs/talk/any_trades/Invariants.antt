use Rattle.std.proofs.Common.{◌≡◌, drop}
use Rattle.std.specs.List.{list_any}
use Rattle.trail_answers.specs.Talk.{trades}
use Rattle.trail_answers.proofs.talk.any_trades.Given as goal

abbrev pub invariant-loop-reply : goal.invariant-loop-reply
invariant-loop-reply l = list_any (λ r. trades l.room r.what) (drop l.reply-index l.replies) ≡ list_any (λ r. trades l.room r.what) l.replies
