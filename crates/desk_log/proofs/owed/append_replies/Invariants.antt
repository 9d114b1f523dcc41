use Rattle.std.proofs.Common.{◌≡◌, ◌++◌, take}
use Rattle.desk_log.specs.Owed.{owed_by, owed_views}
use Rattle.desk_log.proofs.owed.append_replies.Given as goal

abbrev pub invariant-loop-reply : goal.invariant-loop-reply
invariant-loop-reply l = owed_views l.owed.items ≡ owed_views l.fn.owed.items ++ owed_by l.row l.who (take l.reply-index l.replies)
