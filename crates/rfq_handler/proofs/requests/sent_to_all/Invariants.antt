use Rattle.std.proofs.Common.{◌≡◌, map, take}
use Rattle.rfq_handler.specs.Sent.{request_sent}
use Rattle.rfq_handler.proofs.requests.sent_to_all.Given as goal

abbrev pub invariant-loop-recipient : goal.invariant-loop-recipient
invariant-loop-recipient l = l.replies.items ≡ map (request_sent l.room l.symbol) (take l.recipient-index l.recipient-items)
