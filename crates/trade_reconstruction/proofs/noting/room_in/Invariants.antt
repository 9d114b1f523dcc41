use Rattle.std.proofs.Common.{◌≡◌, None, drop}
use Rattle.trade_reconstruction.specs.QuoteNotes.{room_after}
use Rattle.trade_reconstruction.proofs.noting.room_in.Given as goal

abbrev pub invariant-loop-reply : goal.invariant-loop-reply
invariant-loop-reply l = room_after l.number l.room (drop l.reply-index l.replies) ≡ room_after l.number None l.replies
