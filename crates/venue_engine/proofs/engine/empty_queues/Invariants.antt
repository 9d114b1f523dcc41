use Rattle.std.proofs.Common.{◌≡◌, ◌≤◌, length}
use Rattle.std.specs.Prelude.{vec_len, vec_capacity}
use Rattle.venue_engine.specs.Queued.{AreEmpty}
use Rattle.venue_engine.proofs.engine.empty_queues.Given as goal

abbrev pub invariant-loop : goal.invariant-loop
invariant-loop l = record {
  long : length l.queues.items ≡ l.counter;
  empty : AreEmpty l.queues.items;
  len : vec_len l.queues ≡ l.counter;
  capacity : l.count ≤ vec_capacity l.queues;
}
