-- The sides of the world as the program keeps them: the slots here, the queues with the engine.
use Rattle.std.specs.Prelude.{ℕ, ◌≡◌, true, List, [], ◌∷◌, Option, Some, None, slice_get}
use Rattle.fix_session.specs.Reader.{Reader}
use Rattle.fix_session.specs.State.{fresh}
use Rattle.participants.specs.ParticipantFile.{ParticipantFile}
use Rattle.outbound_queue.specs.declared.queue.Queue.{Queue}
use Rattle.venue_engine.specs.Ledger.{Ledger}
use Rattle.venue_engine.specs.Step.{with_queue}
use Rattle.venue_rules.specs.declared.trail.EventFault.{EventFault}
use Rattle.venue_rules.specs.declared.trail.EventFault.TheVariants.{Behind, Due, Down, NoMemory, TrailRefused}
use Rattle.venue_world.specs.declared.world_event.SessionEvent.{SessionEvent}
use Rattle.venue_world.specs.declared.session_slot.SessionSlot.{SessionSlot}
use Rattle.venue_world.specs.Seen.{Seen, takes_memory}
use Rattle.venue_world.specs.Side.{Side}
use Rattle.venue_world.specs.World.{ids_of}

-- the side of a slot and its queue
abbrev pub side_of : SessionSlot → Queue → Side
side_of d q = record { session = d.session.state; moment = d.moment; seat = d.seat; reply = d.reply; queue = q.waiting.items; is_cut = q.is_cut }

abbrev pub sides_of : List SessionSlot → List Queue → List Side
sides_of [] queues = []
sides_of (d ∷ slots) [] = []
sides_of (d ∷ slots) (q ∷ queues) = side_of d q ∷ sides_of slots queues

-- the model of an engine and the slots
abbrev pub seen : Ledger → List SessionSlot → Seen
seen l slots = record {
  market = l.market;
  stands = l.stands;
  rows = l.rows;
  is_clean = l.is_clean;
  refused = l.refused;
  count = l.count;
  moment = l.last;
  sides = sides_of slots l.queues;
}

-- an act was done at the i-th slot and its queue alone
pub record IsDoneAt (i : ℕ) (d d' : SessionSlot) (l l' : Ledger) (f : Reader → Side → Side) : Type 0 where
  pub queue : Queue
  pub queue' : Queue
  pub here : slice_get l.queues i ≡ Some queue
  pub engine : l' ≡ with_queue l i queue'
  pub side : (r : Reader) → side_of d' queue' ≡ f r (side_of d queue)

-- or nothing changed there
pub record IsStillAt (i : ℕ) (d d' : SessionSlot) (l l' : Ledger) : Type 0 where
  pub queue : Queue
  pub queue' : Queue
  pub here : slice_get l.queues i ≡ Some queue
  pub engine : l' ≡ with_queue l i queue'
  pub side : side_of d' queue' ≡ side_of d queue

-- why an act of one side failed: its refusal, or an allocation
abbrev pub IsCauseAlone : Option EventFault → SessionEvent → EventFault → Type 0
IsCauseAlone refusal x NoMemory = (takes_memory x ≡ true) × (refusal ≡ None)
IsCauseAlone refusal x TrailRefused = ⊥
IsCauseAlone refusal x (Behind j) = refusal ≡ Some (Behind j)
IsCauseAlone refusal x (Down j) = refusal ≡ Some (Down j)
IsCauseAlone refusal x Due = refusal ≡ Some Due

-- a new slot: the line is down, and the seats are empty
pub record IsFreshSlot (file : ParticipantFile) (name : List ℕ) (d : SessionSlot) : Type 0 where
  pub session : d.session.state ≡ fresh (ids_of file name)
  pub moment : d.moment ≡ 0
  pub seat : d.seat ≡ None
  pub reply : d.reply ≡ None

-- one for each of these names, in order
abbrev pub AreFreshSlots : ParticipantFile → List (List ℕ) → List SessionSlot → Type 0
AreFreshSlots file [] [] = Unit {0}
AreFreshSlots file [] (d ∷ slots) = ⊥
AreFreshSlots file (name ∷ names) [] = ⊥
AreFreshSlots file (name ∷ names) (d ∷ slots) = IsFreshSlot file name d × AreFreshSlots file names slots
