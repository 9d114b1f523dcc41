use Rattle.std.proofs.Common.{◌≡◌, drop}
use Rattle.participant_activity.specs.Kept.{activity_of}
use Rattle.participant_activity.specs.Replayed.{after_replies}
use Rattle.participant_activity.proofs.noting.note_replies.Given as goal

abbrev pub invariant-loop-reply : goal.invariant-loop-reply
invariant-loop-reply l = after_replies (activity_of l.activity) l.who l.moment l.occasion (drop l.reply-index l.replies) ≡ after_replies (activity_of l.fn.activity) l.who l.moment l.occasion l.replies
