use Rattle.std.proofs.Common.{◌≡◌, ◌++◌, None, drop}
use Rattle.trade_table.specs.Sources.{made_after}
use Rattle.trade_table.proofs.sources.push_made_at.Given as goal

abbrev pub invariant-loop-reply : goal.invariant-loop-reply
invariant-loop-reply l =
    l.executions.items ++ made_after l.at.row.now l.at.taken.now l.at.known.now l.before (drop l.reply-index l.replies) ≡ l.fn.executions.items ++ made_after l.at.row.now l.at.taken.now l.at.known.now None l.replies
