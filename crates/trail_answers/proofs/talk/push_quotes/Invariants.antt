use Rattle.std.proofs.Common.{◌≡◌, ◌++◌, take}
use Rattle.std.specs.List.{flat_map}
use Rattle.trail_answers.specs.Talk.{sent_on}
use Rattle.trail_answers.proofs.talk.push_quotes.Given as goal

abbrev pub invariant-loop-reply : goal.invariant-loop-reply
invariant-loop-reply l = l.quotes.items ≡ l.fn.quotes.items ++ flat_map (λ r. sent_on r.what) (take l.reply-index l.replies)
