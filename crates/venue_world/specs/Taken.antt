-- A take from a participant's seat.
use Rattle.std.specs.Prelude.{ℕ, ◌≡◌, true, false, List, Option, Some, None, Ok, Err, slice_get}
use Rattle.std.specs.declared.result.Result.{Result}
use Rattle.fix_dictionary.specs.declared.messages.Item.{Item}
use Rattle.venue_rules.specs.declared.trail.EventFault.{EventFault}
use Rattle.venue_rules.specs.declared.trail.EventFault.TheVariants.{Behind, Due, Down, NoMemory, TrailRefused}
use Rattle.outbound_queue.specs.declared.queue.Queue.{Queue}
use Rattle.venue_engine.specs.Ledger.{Ledger}
use Rattle.venue_engine.specs.Step.{IsDone, IsDue, IsUndone}
use Rattle.venue_world.specs.declared.session_slot.SessionSlot.{SessionSlot}
use Rattle.venue_world.specs.Slots.{sides_of}
use Rattle.venue_world.specs.World.{at, emptied, message_from}

-- this is in the seat of the i-th slot
abbrev pub IsSeat : ℕ → List SessionSlot → Option Item → Type 0
IsSeat i slots seat = (d : SessionSlot) × (slice_get slots i ≡ Some d) × (d.seat ≡ seat)

-- the slots are the same, whatever the queues
abbrev pub AreSameSlots : List SessionSlot → List SessionSlot → Type 0
AreSameSlots slots slots' = (queues : List Queue) → sides_of slots' queues ≡ sides_of slots queues

abbrev pub IsEmptied : ℕ → List SessionSlot → List SessionSlot → Type 0
IsEmptied i slots slots' = (queues : List Queue) → sides_of slots' queues ≡ at i emptied (sides_of slots queues)

-- the message in the seat was answered; or the seat was empty, and only the moment changed
abbrev pub Took : ℕ → ℕ → List SessionSlot → List SessionSlot → Ledger → Ledger → Option Item → Type 0
Took i t slots slots' l l' (Some item) = IsSeat i slots (Some item) × IsDone (message_from i item t) t false l l' × IsEmptied i slots slots'
Took i t slots slots' l l' None = IsSeat i slots None × IsDue l.stands t false × (l' ≡ record l { last = t }) × AreSameSlots slots slots'

-- the message was not answered, and is back
abbrev pub IsBack : ℕ → ℕ → EventFault → List SessionSlot → List SessionSlot → Ledger → Ledger → Type 0
IsBack i t fault slots slots' l l' = (item : Item) × IsSeat i slots (Some item) × IsUndone (message_from i item t) t false fault l l' × AreSameSlots slots slots'

abbrev pub IsTake : ℕ → ℕ → List SessionSlot → List SessionSlot → Ledger → Ledger → Result (Unit {0}) EventFault → Type 0
IsTake i t slots slots' l l' (Ok u) = (took : Option Item) × Took i t slots slots' l l' took
IsTake i t slots slots' l l' (Err Due) = IsDue l.stands t true × (l' ≡ l) × AreSameSlots slots slots'
IsTake i t slots slots' l l' (Err (Behind j)) = IsBack i t (Behind j) slots slots' l l'
IsTake i t slots slots' l l' (Err TrailRefused) = IsBack i t TrailRefused slots slots' l l'
IsTake i t slots slots' l l' (Err NoMemory) = IsBack i t NoMemory slots slots' l l'
IsTake i t slots slots' l l' (Err (Down j)) = ⊥
