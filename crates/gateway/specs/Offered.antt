-- The bytes that a session queued on each connection, and those of them that the line was offered.
use Rattle.std.specs.Prelude.{◌≡◌, ℕ, List, [], ◌∷◌, ◌++◌, drop, length}
use Rattle.fix_session.specs.Reader.{Reader}
use Rattle.gateway.specs.declared.line.Accept.TheVariants as accept
use Rattle.gateway.specs.declared.piece.Given.TheVariants as gave
use Rattle.outbound_queue.specs.declared.outgoing.Outgoing.TheVariants.{Message, Cut}
use Rattle.gateway.specs.Thread.{ThreadState, Event, Accepts, Collects, Writes, Breaks_off, Reads, Keeps, Repeats, Steps, Hands, Ticks, moves}

-- the bytes queued on a connection, and those offered to the line: all were taken, but for a last part of the write
-- that it broke off
pub record Connection : Type 0 where
  pub queued : List ℕ
  pub offered : List ℕ

-- the connections that are over, and the one that there is
pub record Connections : Type 0 where
  pub over : List Connection
  pub now : Connection

abbrev pub no_bytes : Connection
no_bytes = record { queued = []; offered = [] }

abbrev pub closed : Connections → Connections
closed c = record { over = c.over ++ c.now ∷ []; now = no_bytes }

abbrev pub offers : Connections → List ℕ → Connections
offers c bytes = record c { now = record { queued = c.now.queued; offered = c.now.offered ++ bytes } }

-- what follows these first bytes was queued
abbrev pub queues : Connections → List ℕ → List ℕ → Connections
queues c before after = record c { now = record { queued = c.now.queued ++ drop (length before) after; offered = c.now.offered } }

-- the connections after an event of a thread: one ends where the line breaks or another begins
abbrev pub notes : Reader → ThreadState → Event → Connections → Connections
notes r s (Accepts accept.Up t) c = closed c
notes r s (Accepts accept.Quiet t) c = c
notes r s (Accepts accept.Over t) c = c
notes r s (Accepts accept.Fault t) c = closed c
notes r s (Collects (Message app) t) c = queues c s.session.wire (moves r s (Collects (Message app) t)).session.wire
notes r s (Collects Cut t) c = closed c
notes r s Writes c = offers c s.session.wire
notes r s Breaks_off c = closed (offers c s.session.wire)
notes r s (Reads (gave.Got piece)) c = c
notes r s (Reads gave.Quiet) c = c
notes r s (Reads gave.Ended) c = closed c
notes r s (Reads gave.Fault) c = closed c
notes r s (Keeps piece) c = c
notes r s (Repeats piece) c = c
notes r s (Steps t) c = queues c s.session.wire (moves r s (Steps t)).session.wire
notes r s Hands c = c
notes r s (Ticks t) c = queues c s.session.wire (moves r s (Ticks t)).session.wire

abbrev pub noted : Reader → List Event → ThreadState → Connections → Connections
noted r [] s c = c
noted r (e ∷ events) s c = noted r events (moves r s e) (notes r s e c)

-- the connections of a run of events
abbrev pub connections : Reader → List Event → ThreadState → Connections
connections r events s = noted r events s (record { over = []; now = no_bytes })

-- the line was offered a first part of what was queued
abbrev pub IsFirstPart : Connection → Type 0
IsFirstPart c = (rest : List ℕ) × (c.queued ≡ c.offered ++ rest)

abbrev pub AllFirstParts : List Connection → Type 0
AllFirstParts [] = Unit {0}
AllFirstParts (c ∷ connections) = IsFirstPart c × AllFirstParts connections

-- on each connection the line was offered a first part of what was queued there; on the last one, all but what still
-- waits
pub record AreFirstParts (connections : Connections) (wire : List ℕ) : Type 0 where
  pub over : AllFirstParts connections.over
  pub now : connections.now.queued ≡ connections.now.offered ++ wire
