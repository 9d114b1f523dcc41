-- A message leaves its seat, and may be put back.
use Rattle.std.proofs.Common.{◌≡◌, ℕ, ◌<◌, List, set, sym, ap, ◌∙◌, subst, Err, Option, Some, None}
use Rattle.std.specs.Prelude.{slice_get}
use Rattle.fix_dictionary.specs.declared.messages.Item.{Item}
use Rattle.outbound_queue.specs.declared.queue.Queue.{Queue}
use Rattle.venue_engine.specs.Ledger.{Ledger}
use Rattle.venue_engine.specs.Step.{HasAnswered}
use Rattle.venue_rules.specs.declared.trail.EventFault.{EventFault}
use Rattle.venue_rules.specs.declared.trail.EventFault.TheVariants.{Behind, Due, Down, NoMemory, TrailRefused}
use Rattle.venue_world.specs.declared.session_slot.SessionSlot.{SessionSlot}
use Rattle.venue_world.specs.Slots.{side_of, sides_of}
use Rattle.venue_world.specs.Taken.{AreSameSlots, IsEmptied, IsSeat, IsTake}
use Rattle.venue_world.specs.World.{at, emptied, filled, message_from}
use Rattle.venue_world.proofs.Places.{at_same, set_set, written_slot}

-- an empty seat was looked at
pub nothing_taken : (slots : List SessionSlot) (i who : ℕ) (d d' : SessionSlot) → i ≡ who → slice_get slots i ≡ Some d → d.seat ≡ None → ((q : Queue) → side_of d' q ≡ emptied (side_of d q)) → AreSameSlots slots (set slots i d')
nothing_taken slots i who d d' is d_at empty out qs = written_slot slots qs i (λ s. s) d d' d_at (λ q. out q ∙ ap (λ (seat : Option Item). record (side_of d q) { seat = seat }) (sym empty)) ∙ at_same (sides_of slots qs) i

-- a full one was emptied
pub is_emptied : (slots : List SessionSlot) (i who : ℕ) (d d' : SessionSlot) → i ≡ who → slice_get slots i ≡ Some d → ((q : Queue) → side_of d' q ≡ emptied (side_of d q)) → IsEmptied who slots (set slots i d')
is_emptied slots i who d d' is d_at out qs = written_slot slots qs i emptied d d' d_at out ∙ ap (λ (n : ℕ). at n emptied (sides_of slots qs)) is

-- and filled again
pub is_refilled : (slots : List SessionSlot) (i : ℕ) (d d' d'' : SessionSlot) (item : Item) → slice_get slots i ≡ Some d → d.seat ≡ Some item → ((q : Queue) → side_of d' q ≡ emptied (side_of d q)) → ((q : Queue) → side_of d'' q ≡ filled item (side_of d' q)) → AreSameSlots slots (set (set slots i d') i d'')
is_refilled slots i d d' d'' item d_at full out back qs =
    ap (λ (l : List SessionSlot). sides_of l qs) (set_set slots i d' d'')
    ∙ written_slot slots qs i (λ s. s) d d'' d_at (λ q. back q ∙ ap (filled item) (out q) ∙ ap (λ (seat : Option Item). record (side_of d q) { seat = seat }) (sym full))
    ∙ at_same (sides_of slots qs) i

pub seat_at_place : (slots : List SessionSlot) (i who : ℕ) (d : SessionSlot) (seat : Option Item) → i ≡ who → slice_get slots i ≡ Some d → d.seat ≡ seat → IsSeat who slots seat
seat_at_place slots i who d seat is d_at e = (d, subst (λ (n : ℕ). slice_get slots n ≡ Some d) is d_at, e)

-- the message was not answered, and is back
pub take_failed : (i t : ℕ) (fault : EventFault) (slots slots' : List SessionSlot) (l l' : Ledger) (item : Item) → IsSeat i slots (Some item) → AreSameSlots slots slots' → HasAnswered (message_from i item t) t l l' (Err fault) → IsTake i t slots slots' l l' (Err fault)
take_failed i t Due slots slots' l l' item seat same emitted = (emitted.0, emitted.1, same)
take_failed i t (Behind j) slots slots' l l' item seat same emitted = (item, seat, emitted, same)
take_failed i t TrailRefused slots slots' l l' item seat same emitted = (item, seat, emitted, same)
take_failed i t NoMemory slots slots' l l' item seat same emitted = (item, seat, emitted, same)
take_failed i t (Down j) slots slots' l l' item seat same emitted = absurd emitted
