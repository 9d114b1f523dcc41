use Rattle.std.proofs.Common.{◌≡◌, length}
use Rattle.venue_engine.specs.Outbox.{HaveCapacity, places_of, all_waits, enqueued}
use Rattle.venue_engine.proofs.outbox.enqueue.Given as goal

abbrev pub invariant-loop-message : goal.invariant-loop-message
invariant-loop-message l = record {
  capacity : HaveCapacity (length l.messages.items) l.queues.items (places_of l.messages.items);
  rest : enqueued l.messages.items (all_waits l.queues.items) ≡ enqueued l.initial.messages.items (all_waits l.fn.queues.items);
}

abbrev pub decreases-loop-message : goal.decreases-loop-message
decreases-loop-message l = length l.messages.items
