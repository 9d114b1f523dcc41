use Rattle.std.proofs.Common.{◌≡◌, ◌++◌, take}
use Rattle.std.specs.List.{flat_map}
use Rattle.trade_reconstruction.specs.QuoteNotes.{ended_by}
use Rattle.trade_reconstruction.proofs.noting.push_ended_of.Given as goal

abbrev pub invariant-loop-reply : goal.invariant-loop-reply
invariant-loop-reply l = l.ended.items ≡ l.fn.ended.items ++ flat_map (ended_by l.row l.from) (take l.reply-index l.replies)
