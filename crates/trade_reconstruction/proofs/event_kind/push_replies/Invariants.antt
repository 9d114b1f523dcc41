use Rattle.std.proofs.Common.{◌≡◌, ◌++◌, take}
use Rattle.trade_reconstruction.specs.EventKinds.{words_of}
use Rattle.trade_reconstruction.proofs.event_kind.push_replies.Given as goal

abbrev pub invariant-loop-reply : goal.invariant-loop-reply
invariant-loop-reply l = l.words.items ≡ l.fn.words.items ++ words_of l.row l.moment l.trigger (take l.reply-index l.replies)
