use Rattle.std.proofs.Common.{◌≡◌, length, take}
use Rattle.venue_engine.specs.Outbox.{HaveCapacity, recipients, all_waits}
use Rattle.venue_engine.proofs.outbox.reserve_for.Given as goal

abbrev pub invariant-loop-reply : goal.invariant-loop-reply
invariant-loop-reply l = record {
  same : all_waits l.queues.items ≡ all_waits l.fn.queues.items;
  capacity : HaveCapacity (length l.replies) l.queues.items (recipients (take l.reply-index l.replies));
}
