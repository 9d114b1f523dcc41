use Rattle.std.proofs.Common.{◌≡◌, flat_map, take}
use Rattle.rfq_handler.specs.Sent.{both_emitted}
use Rattle.rfq_handler.proofs.withdrawals.notify_all.Given as goal

abbrev pub invariant-loop-quote : goal.invariant-loop-quote
invariant-loop-quote l = l.replies.items ≡ flat_map (both_emitted l.instruments l.rooms.facts) (take l.quote-index l.quotes)
